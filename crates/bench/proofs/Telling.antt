-- Frames that are read and told, one more at a time.
use Rattle.std.proofs.Common.{◌≡◌, ℕ, zero, suc, ◌+◌, ◌*◌, ◌/◌, ◌%◌, ◌<◌, ◌≤◌, Ok, Result, MatchOption, List, [], ◌∷◌, ◌++◌, length, get_or, take, drop, Some, None, Option, IfSome, refl, sym, ap, ◌∙◌, subst, append_assoc, append-nil, add-one, add-zero, add-suc, arith, length-take-le, drop_at, take_all}
use Rattle.std.proofs.lemmas.List.{length-append, length-drop, get_or-drop, get_or_append_left, drop-drop, drop_all}
use Rattle.std.proofs.Math.Seq.{take-append-add, take-append_seam}
use Rattle.std.proofs.Math.Nat.{suc-mul, mul_left_comm, div-eq_of_lt-le, mod_self, div_self, mul_comm, mul-le-mul_right}
use Rattle.std.proofs.lemmas.Nat.{le-div}
use Rattle.std.proofs.KnownBytes.{Appends-trans}
use Rattle.std.specs.Io.KnownBytes.{Appends, Consumes, IsAtEnd}
use Rattle.std.specs.Borrow.{Bor}
use Rattle.grade.specs.Spans.{spans}
use Rattle.grade.specs.Voices.{voices, word}
use Rattle.grade.specs.declared.voices.Voices.{Voices}
use Rattle.formula.specs.Grades.{grade}
use Rattle.formula.proofs.Known.{known_by}
use Rattle.rule.specs.Trees.{rule_of}
use Rattle.report.specs.Texts.{line_text}
use Rattle.sheet.specs.Rules.{Written}
use Rattle.refusal.specs.declared.Refusal.{Refusal}
use Rattle.watch.specs.Feeding.{Progress, progress, take_length, logged, feed_answer, advanced, accepted_by}
use Rattle.watch.specs.Marking.{mark_refusal}
use Rattle.std.proofs.lemmas.Bool.Decides.{nat_tests}
use Rattle.watch.proofs.Takes.{traces_agree}
use Rattle.bench.specs.Lines.{line_of, lines_of, frames_in, take_lines, after_take}
use Rattle.bench.specs.Reading.{ReadsFrame, FallsShort}
use Rattle.bench.specs.Steps.{line_after, told, step_answer}
use Rattle.bench.specs.Words.{word_at, words}
use Rattle.bench.proofs.Decoding.{words_size, decoded_alone}

word_later : (bytes : List ℕ) (k n : ℕ) → word_at bytes (k + n) ≡ word_at (drop (2 * k) bytes) n
word_later bytes k n =
    let at : 2 * (k + n) ≡ 2 * k + 2 * n = omega arith in
    let after : 2 * (k + n) + 1 ≡ 2 * k + (2 * n + 1) = omega arith in
    (λ i. word (get_or bytes (at i) 0 + 256 * get_or bytes (after i) 0))
    ∙ (λ i. word (sym (get_or-drop (2 * k) bytes (2 * n) 0) i + 256 * sym (get_or-drop (2 * k) bytes (2 * n + 1) 0) i))

-- the words of the first k facts, and then of n more
words_add : (bytes : List ℕ) (k n : ℕ) → words bytes (k + n) ≡ words bytes k ++ words (drop (2 * k) bytes) n
words_add bytes k zero = ap (words bytes) (add-zero k) ∙ sym (append-nil (words bytes k))
words_add bytes k (suc n) =
    ap (words bytes) (add-suc k n)
    ∙ ap (λ l. l ++ word_at bytes (k + n) ∷ []) (words_add bytes k n)
    ∙ append_assoc (words bytes k) (words (drop (2 * k) bytes) n) (word_at bytes (k + n) ∷ [])
    ∙ ap (λ v. words bytes k ++ (words (drop (2 * k) bytes) n ++ v ∷ [])) (word_later bytes k n)

-- what follows does not count
words_alone : (front rest : List ℕ) (n : ℕ) → 2 * n ≤ length front → words (front ++ rest) n ≡ words front n
words_alone front rest zero h = refl
words_alone front rest (suc n) h =
    let before = words_alone front rest n (omega arith) in
    let low = get_or_append_left front rest 0 (2 * n) (omega arith) in
    let high = get_or_append_left front rest 0 (2 * n + 1) (omega arith) in
    (λ i. before i ++ word (low i + 256 * high i) ∷ [])

-- where the bytes before are known, so are those after
consumed_known : (xs : List ℕ) (after : Option (List ℕ)) (bytes : List ℕ) → Consumes (Some xs) after bytes → (ys : List ℕ) × (after ≡ Some ys) × (xs ≡ bytes ++ ys)
consumed_known xs None bytes taken = absurd taken
consumed_known xs (Some ys) bytes taken = (ys, refl, taken)

next_multiple : (k n : ℕ) → (k + 1) * n ≡ k * n + n
next_multiple k n = ap (λ m. m * n) (add-one k) ∙ suc-mul k n

-- k frames of the bytes have been read, and stand in the log
pub record SoFar (w : Written) (bytes : List ℕ) (k : ℕ) (after : Option (List ℕ)) (log : List Voices) : Type 0 where
  pub room : k * (2 * w.facts) ≤ length bytes
  pub left : after ≡ Some (drop (k * (2 * w.facts)) bytes)
  pub front : take (k * w.facts) log ≡ words bytes (k * w.facts)

frame_more : (w : Written) (bytes : List ℕ) (k : ℕ) (mid after : Option (List ℕ)) (log frame grades : List Voices) → SoFar w bytes k mid log → ReadsFrame w.facts mid after frame → grades ≡ logged (progress w k) 1 frame log → k * w.facts ≤ length log → SoFar w bytes (k + 1) after grades
frame_more w bytes k mid after log frame grades so read grown inside =
    let f = w.facts in
    let got = consumed_known _ after read.bytes (subst (λ m. Consumes m after read.bytes) so.left read.taken) in
    let ys = got.0 in
    let split = got.2 in
    let more = next_multiple k (2 * f) in
    let far = next_multiple k f in
    let twice : k * (2 * f) ≡ 2 * (k * f) = mul_left_comm k 2 f in
    let exact = read.whole ∙ decoded_alone read.bytes f in
    let long : length frame ≡ f = ap length exact ∙ words_size read.bytes f in
    let one : take (1 * f) frame ≡ frame = take_all (1 * f) frame (omega arith) in
    let kept : length (take (k * f) log) ≡ k * f = length-take-le (k * f) log inside in
    let rest = drop ((k + 1) * f) log in
    record {
      room = omega (arith, more, so.room, length-drop (k * (2 * f)) bytes, ap length split, length-append read.bytes ys, read.size);
      left = got.1 ∙ ap Some (sym (drop_at read.bytes ys (2 * f) read.size) ∙ ap (drop (2 * f)) (sym split) ∙ drop-drop (2 * f) (k * (2 * f)) bytes ∙ ap (λ n. drop n bytes) (sym more));
      front =
          (λ i. take (far i) (grown i))
          ∙ ap (λ n. take (n + f) (take (k * f) log ++ (take (1 * f) frame ++ rest))) (sym kept)
          ∙ take-append-add (take (k * f) log) (take (1 * f) frame ++ rest) f
          ∙ (λ i. so.front i ++ take (sym long i) (one i ++ rest))
          ∙ ap (λ l. words bytes (k * f) ++ l) (take-append_seam frame rest ∙ exact ∙ sym (words_alone read.bytes ys f (omega (arith, read.size))) ∙ (λ i. words (sym split i) f) ∙ ap (λ n. words (drop n bytes) f) twice)
          ∙ sym (words_add bytes (k * f) f)
          ∙ ap (words bytes) (sym far);
    }

-- the line after n frames rests on these alone
line_same : (w : Written) (n : ℕ) (a b : List Voices) → take (n * w.facts) a ≡ take (n * w.facts) b → line_after (progress w n) a ≡ line_after (progress w n) b
line_same w n a b same =
    ap (λ s. line_text n s.low.bits s.high.bits) (ap (λ k. grade (spans voices) k (rule_of w) 0) (known_by voices n _ _ (traces_agree voices w.facts n a b same)))

-- and a line has been told after each, where the bytes of the input are known
abbrev pub ToldSoFar : Written → (before after out told : Option (List ℕ)) → ℕ → List Voices → Type 0
ToldSoFar w before after out told k log = IfSome before (λ bytes. SoFar w bytes k after log × Appends out told (lines_of w bytes k))

pub told_more : (w : Written) (before mid after out told more : Option (List ℕ)) (k : ℕ) (log frame grades : List Voices) (text : List ℕ) → ToldSoFar w before mid out told k log → ReadsFrame w.facts mid after frame → grades ≡ logged (progress w k) 1 frame log → k * w.facts ≤ length log → Appends told more text → text ≡ line_after (progress w (k + 1)) grades → ToldSoFar w before after out more (k + 1) grades
told_more w None mid after out told more k log frame grades text so read grown inside wrote is = tt
told_more w (Some bytes) mid after out told more k log frame grades text so read grown inside wrote is =
    let next = frame_more w bytes k mid after log frame grades so.0 read grown inside in
    let all = words bytes ((k + 1) * w.facts) in
    let line = is ∙ line_same w (k + 1) grades all (next.front ∙ sym (take_all ((k + 1) * w.facts) all (omega (arith, words_size bytes ((k + 1) * w.facts))))) in
    let lines =
    ap (λ t. lines_of w bytes k ++ t) line
    ∙ ap (λ n. lines_of w bytes k ++ line_of w bytes n) (add-one k)
    ∙ sym (ap (lines_of w bytes) (add-one k)) in
    (next, subst (Appends out more) lines (Appends-trans out told more _ _ so.1 wrote))

-- all is told where the take is complete
pub told_take : (w : Written) (before after out told : Option (List ℕ)) (k : ℕ) (log : List Voices) → 1 ≤ w.facts → k ≡ take_length w → ToldSoFar w before after out told k log → IfSome before (λ bytes. Appends out told (take_lines w bytes))
told_take w None after out told k log some full so = tt
told_take w (Some bytes) after out told k log some full so =
    let fits = le-div k (length bytes) (2 * w.facts) (omega arith) so.0.room in
    let count : k ≡ frames_in w bytes = omega arith in
    subst (λ n. Appends out told (lines_of w bytes n)) count so.1

-- and where no more whole frame comes
pub told_all : (w : Written) (before mid after out told : Option (List ℕ)) (k : ℕ) (log : List Voices) → 1 ≤ w.facts → k ≤ take_length w → ToldSoFar w before mid out told k log → FallsShort (2 * w.facts) mid after → IfSome before (λ bytes. Appends out told (take_lines w bytes))
told_all w None mid after out told k log some within so short = tt
told_all w (Some bytes) mid after out told k log some within so short =
    let got = consumed_known _ after short.bytes (subst (λ m. Consumes m after short.bytes) so.0.left short.taken) in
    let none = subst IsAtEnd got.1 short.ended in
    let left = ap length got.2 ∙ length-append short.bytes got.0 ∙ ap (λ l. length short.bytes + length l) none in
    let few : length bytes < (k + 1) * (2 * w.facts) = omega (arith, next_multiple k (2 * w.facts), length-drop (k * (2 * w.facts)) bytes, left, short.short) in
    let count = div-eq_of_lt-le {k = k} (2 * w.facts) so.0.room few in
    let all : k ≡ frames_in w bytes = omega (arith, count) in
    subst (λ n. Appends out told (lines_of w bytes n)) all so.1

-- what comes after the last frame is left, where the take is complete
pub left_take : (w : Written) (before after out told : Option (List ℕ)) (k : ℕ) (log : List Voices) → k ≡ take_length w → ToldSoFar w before after out told k log → IfSome before (λ bytes. after ≡ Some (after_take w bytes))
left_take w None after out told k log full so = tt
left_take w (Some bytes) after out told k log full so = so.0.left ∙ ap (λ n. Some (drop (n * (2 * w.facts)) bytes)) full

-- and where no more whole frame comes, nothing is
pub left_all : (w : Written) (before mid after out told : Option (List ℕ)) (k : ℕ) (log : List Voices) → k < take_length w → ToldSoFar w before mid out told k log → FallsShort (2 * w.facts) mid after → IfSome before (λ bytes. after ≡ Some (after_take w bytes))
left_all w None mid after out told k log early so short = tt
left_all w (Some bytes) mid after out told k log early so short =
    let got = consumed_known _ after short.bytes (subst (λ m. Consumes m after short.bytes) so.0.left short.taken) in
    let none = subst IsAtEnd got.1 short.ended in
    let left = ap length got.2 ∙ length-append short.bytes got.0 ∙ ap (λ l. length short.bytes + length l) none in
    let few : length bytes < (k + 1) * (2 * w.facts) = omega (arith, next_multiple k (2 * w.facts), length-drop (k * (2 * w.facts)) bytes, left, short.short) in
    let within : k + 1 ≤ take_length w = omega arith in
    let most = mul-le-mul_right (2 * w.facts) within in
    got.1 ∙ ap Some (none ∙ sym (drop_all (take_length w * (2 * w.facts)) bytes (omega (arith, few, most))))

pub left_at : (w : Written) (before now after : Option (List ℕ)) → now ≡ after → IfSome before (λ bytes. after ≡ Some (after_take w bytes)) → IfSome before (λ bytes. now ≡ Some (after_take w bytes))
left_at w None now after same is = tt
left_at w (Some bytes) now after same is = same ∙ is

-- what a read of a frame says of one that came, and of none
pub read_some : (facts f : ℕ) (before after : Option (List ℕ)) (next : Option (Bor (List Voices))) (frame : Bor (List Voices)) → facts ≡ f → next ≡ Some frame → MatchOption next (FallsShort (2 * facts) before after) (λ x. ReadsFrame facts before after x.now) → ReadsFrame f before after frame.now
read_some facts f before after next frame same is read =
    subst (λ n. ReadsFrame n before after frame.now) same (subst (λ o. MatchOption o (FallsShort (2 * facts) before after) (λ x. ReadsFrame facts before after x.now)) is read)

pub read_none : (facts f : ℕ) (before after : Option (List ℕ)) (next : Option (Bor (List Voices))) → facts ≡ f → next ≡ None → MatchOption next (FallsShort (2 * facts) before after) (λ x. ReadsFrame facts before after x.now) → FallsShort (2 * f) before after
read_none facts f before after next same is read =
    subst (λ n. FallsShort (2 * n) before after) same (subst (λ o. MatchOption o (FallsShort (2 * facts) before after) (λ x. ReadsFrame facts before after x.now)) is read)

pub frame_size : (w : Written) (before after : Option (List ℕ)) (frame : List Voices) → ReadsFrame w.facts before after frame → length frame ≡ w.facts
frame_size w before after frame read = ap length (read.whole ∙ decoded_alone read.bytes w.facts) ∙ words_size read.bytes w.facts

-- a frame is accepted while the take is not complete
pub feed_one : (w : Written) (k log strip : ℕ) → 1 ≤ w.facts → log ≡ w.facts * take_length w → strip ≡ w.facts → k < take_length w → feed_answer (progress w k) log strip ≡ Ok 1
feed_one w k log strip some size one early =
    let whole : strip % w.facts ≡ 0 = ap (λ n. n % w.facts) one ∙ mod_self w.facts in
    let single : strip / w.facts ≡ 1 = ap (λ n. n / w.facts) one ∙ div_self (omega arith) in
    grind (arith, nat_tests)

-- and then there is a mark
pub marked_one : (w : Written) (k log chart : ℕ) → log ≡ w.facts * take_length w → chart ≡ length w.rows * take_length w → mark_refusal (progress w k) log chart ≡ None
marked_one w k log chart size room = grind (arith, nat_tests)

pub in_log : (w : Written) (k log : ℕ) → log ≡ w.facts * take_length w → k < take_length w → k * w.facts ≤ log
in_log w k log size early = let within : k ≤ take_length w = omega arith in
    let most = mul-le-mul_right w.facts within in omega (arith, most, mul_comm w.facts (take_length w))

module _ (w : Written) (k : ℕ) (p : Progress) (log frame grades : List Voices) (here : p ≡ progress w k) (one : feed_answer (progress w k) (length log) (length frame) ≡ Ok 1) where
  -- a step on from k accepted frames, one more is
  pub accepted_one : (q : Progress) → q ≡ advanced p (accepted_by (feed_answer p (length log) (length frame))) → q ≡ progress w (k + 1)
  accepted_one q is =
      is ∙ (λ i. advanced (here i) (accepted_by (feed_answer (here i) (length log) (length frame)))) ∙ ap (λ r. advanced (progress w k) (accepted_by r)) one

  pub logged_one : grades ≡ logged p (accepted_by (feed_answer p (length log) (length frame))) frame log → grades ≡ logged (progress w k) 1 frame log
  logged_one is =
      is ∙ (λ i. logged (here i) (accepted_by (feed_answer (here i) (length log) (length frame))) frame log) ∙ ap (λ r. logged (progress w k) (accepted_by r) frame log) one

  -- and the step is not refused
  pub answered_one : (chart : ℕ) (r : Result (List ℕ) Refusal) → grades ≡ logged (progress w k) 1 frame log → length grades ≡ w.facts * take_length w → chart ≡ length w.rows * take_length w → r ≡ step_answer (feed_answer p (length log) (length frame)) p log frame chart → r ≡ Ok (line_after (progress w (k + 1)) grades)
  answered_one chart r grown size room is =
      is
      ∙ (λ i. step_answer (feed_answer (here i) (length log) (length frame)) (here i) log frame chart)
      ∙ ap (λ a. step_answer a (progress w k) log frame chart) one
      ∙ (λ i. told (mark_refusal (progress w (k + 1)) (length (sym grown i)) chart) (line_after (progress w (k + 1)) (sym grown i)))
      ∙ ap (λ o. told o (line_after (progress w (k + 1)) grades)) (marked_one w (k + 1) (length grades) chart size room)
