use Rattle.std.proofs.Common.{refl, rules}
use Rattle.listing.proofs.Notices.{small_row}
use Rattle.bench.proofs.run.Goals as goal

pub returns-in-Err : goal.returns-in-Err
returns-in-Err g c =
    let f = c.in-Err.fault in
    let notice = c.notice_of.ensures.told (small_row c.in_ok-bytes.bytes.now f.refusal f.row ((c.in-Err.ensures.refuses f).0 refl)) in
    search rules
