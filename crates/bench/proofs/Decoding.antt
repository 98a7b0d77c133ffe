-- A frame that is read word by word.
use Rattle.std.proofs.Common.{◌≡◌, ℕ, zero, suc, ◌+◌, ◌<◌, ◌≤◌, List, [], ◌∷◌, ◌++◌, length, get_or, drop, set, sym, refl, ap, ◌∙◌, append_assoc, append-nil, add-one, ⊎_elim, arith}
use Rattle.std.proofs.lemmas.List.{length-append, get_or_at, set_at, at_drop_more, drop_all}
use Rattle.std.proofs.lemmas.Bool.{cases_eq}
use Rattle.grade.specs.declared.voices.Voices.{Voices}
use Rattle.bench.specs.Words.{word_at, words, decoded}

pub words_size : (bytes : List ℕ) (n : ℕ) → length (words bytes n) ≡ n
words_size bytes zero = refl
words_size bytes (suc n) = length-append (words bytes n) (word_at bytes n ∷ []) ∙ omega (arith, words_size bytes n)

pub one_more : (bytes : List ℕ) (before : List Voices) (n : ℕ) (v : Voices) → n < length before → v ≡ word_at bytes n → set (decoded bytes before n) n v ≡ decoded bytes before (n + 1)
one_more bytes before n v inside is =
    at_drop_more (λ rest. set (words bytes n ++ rest) n v) before n v inside
    ∙ set_at (words bytes n) _ _ v n (words_size bytes n)
    ∙ ap (λ x. words bytes n ++ x ∷ drop (n + 1) before) is
    ∙ sym (append_assoc (words bytes n) (word_at bytes n ∷ []) (drop (n + 1) before))
    ∙ ap (λ k. words bytes k ++ drop (n + 1) before) (sym (add-one n))

-- each of the words stands in its place
pub word_there : (bytes : List ℕ) (n : ℕ) (rest : List Voices) (f : ℕ) (d : Voices) → f < n → get_or (words bytes n ++ rest) f d ≡ word_at bytes f
word_there bytes zero rest f d h = absurd (omega arith)
word_there bytes (suc n) rest f d h =
    ap (λ l. get_or l f d) (append_assoc (words bytes n) (word_at bytes n ∷ []) rest)
    ∙ ⊎_elim
    (λ last. get_or_at (words bytes n) (word_at bytes n) rest d f (words_size bytes n ∙ sym last) ∙ ap (word_at bytes) (sym last))
    (λ other. word_there bytes n (word_at bytes n ∷ rest) f d (omega (arith, other)))
    (cases_eq f n)

-- as many words as a frame has leave nothing of what it was
pub decoded_whole : (bytes : List ℕ) (before : List Voices) (n : ℕ) → length before ≤ n → decoded bytes before n ≡ words bytes n
decoded_whole bytes before n h = ap (λ l. words bytes n ++ l) (drop_all n before h) ∙ append-nil (words bytes n)

pub decoded_alone : (bytes : List ℕ) (n : ℕ) → decoded bytes [] n ≡ words bytes n
decoded_alone bytes n = decoded_whole bytes [] n (omega arith)
