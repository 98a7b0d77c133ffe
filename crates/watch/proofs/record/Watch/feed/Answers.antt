use Rattle.std.proofs.Common.{◌+◌, ◌*◌, ◌++◌, length, take, drop, sym, refl, ap, ◌∙◌, add-mul, length-take-le}
use Rattle.std.proofs.lemmas.Result.{err_from_is_err_and}
use Rattle.watch.specs.Feeding.{progress_of, accepted_by}
use Rattle.watch.proofs.Feeding.{advanced_none, logged_none, granted_fits}
use Rattle.watch.proofs.record.Watch.feed.Goals as goal

pub returns-in_err-taken : goal.returns-in_err-taken
returns-in_err-taken g c =
    let p = err_from_is_err_and c.from_residual.result c.from_residual.ensures.1 in
    let now = progress_of c.args.self.now in
    let none = ap accepted_by p.1 in
    record {
      answer = cc c.in_err-taken.ensures;
      watch = rw none (sym (advanced_none now));
      sheet = refl;
      unchanged = λ _. (refl, refl);
      log = rw none (sym (logged_none now c.args.strip.now c.args.log.now));
    }

pub slice_bounds-write-end : goal.slice_bounds-write-end
slice_bounds-write-end g c =
    let fits = granted_fits (progress_of c.args.self.now) (length c.args.log.now) (length c.args.strip.now) c.in_ok-taken.taken c.args.self.now.within (sym c.in_ok-taken.ensures) in
    sym (length-take-le (c.in_ok-taken.taken * c.facts-facts.result) c.args.strip.now (rw c.facts-facts.ensures fits.there))

pub write-requires : goal.write-requires
write-requires g c =
    let facts = c.facts-facts.ensures in
    let fits = granted_fits (progress_of c.args.self.now) (length c.args.log.now) (length c.args.strip.now) c.in_ok-taken.taken c.args.self.now.within (sym c.in_ok-taken.ensures) in
    rw (length-take-le (c.in_ok-taken.taken * c.facts-facts.result) c.args.strip.now (rw facts fits.there)) (rw facts fits.room)

pub returns-clause-log : goal.returns-clause-log
returns-clause-log g c =
    let facts = c.facts-facts.ensures in
    let count = c.args.self.now.accepted in
    let taken = c.in_ok-taken.taken in
    let log = c.args.log.now in
    let strip = c.args.strip.now in
    let fits = granted_fits (progress_of c.args.self.now) (length log) (length strip) taken c.args.self.now.within (sym c.in_ok-taken.ensures) in
    let size = length-take-le (taken * c.facts-facts.result) strip (rw facts fits.there) in
    let end = ap (λ n. count * c.facts-facts.result + n) size ∙ sym (add-mul count taken c.facts-facts.result) in
    c.write.ensures
    ∙ ap (λ n. take (count * c.facts-facts.result) log ++ (take (taken * c.facts-facts.result) strip ++ drop n log)) end
    ∙ ap (λ f. take (count * f) log ++ (take (taken * f) strip ++ drop ((count + taken) * f) log)) facts
