-- The lines of a listing, one more at a time.
use Rattle.std.proofs.Common.{◌≡◌, ℕ, ◌+◌, ◌<◌, zero-add, List, ◌++◌, length, get_or, sym, ap, ◌∙◌, add-one, arith}
use Rattle.std.proofs.lemmas.List.{get_or_default}
use Rattle.std.proofs.lemmas.List.FromFn.{length-enumerate_from, get_or-enumerate_from}
use Rattle.std.proofs.lemmas.Slice.Zip.{length-zip, get_or-zip}
use Rattle.std.specs.List.{enumerate_from, zip}
use Rattle.sheet.specs.Rules.{row_at, length_of}
use Rattle.sheet.specs.declared.row.Row.{Row}
use Rattle.sheet.specs.declared.row.Row.TheVariants.{Always}
use Rattle.listing.specs.Words.{row_line, lines_of}

module _ (rows : List Row) (lengths : List ℕ) (even : length lengths ≡ length rows) (each : (k : ℕ) → k < length lengths → get_or lengths k 0 ≡ length_of (row_at rows) k) where
  -- how many rows with their lengths and numbers there are
  pub pairs : length (enumerate_from 0 (zip rows lengths)) ≡ length rows
  pairs = omega (arith, length-enumerate_from 0 (zip rows lengths), length-zip rows lengths)

  -- the line of the pair that stands at n is that of row n
  pub line_here : (n k : ℕ) (row : Row) (len : ℕ) → (n < length (enumerate_from 0 (zip rows lengths))) × ((k, (row, len)) ≡ get_or (enumerate_from 0 (zip rows lengths)) n (k, (row, len))) → row_line k row len ≡ row_line n (row_at rows n) (length_of (row_at rows) n)
  line_here n k row len turn =
      let inside : n < length rows = omega (arith, pairs, turn.0) in
      let inside' : n < length lengths = omega (arith) in
      let numbered : n < length (zip rows lengths) = omega (arith, length-zip rows lengths) in
      let at = turn.1 ∙ get_or-enumerate_from 0 (zip rows lengths) n (k, (row, len)) numbered ∙ ap (λ p. (0 + n, p)) (get_or-zip rows lengths n (row, len) inside inside') in
      (λ i. row_line (at i).0 (at i).1.0 (at i).1.1)
      ∙ (λ i. row_line (zero-add n i) (get_or_default rows n row Always inside i) (get_or_default lengths n len 0 inside' i))
      ∙ ap (row_line n (row_at rows n)) (each n inside')

  -- the lines of the rows so far, and the line of the next
  pub lines_more : (n k : ℕ) (row : Row) (len : ℕ) → (n < length (enumerate_from 0 (zip rows lengths))) × ((k, (row, len)) ≡ get_or (enumerate_from 0 (zip rows lengths)) n (k, (row, len))) → (m : ℕ) → m ≡ n + 1 → lines_of (row_at rows) (length_of (row_at rows)) n ++ row_line k row len ≡ lines_of (row_at rows) (length_of (row_at rows)) m
  lines_more n k row len turn m next =
      ap (λ line. lines_of (row_at rows) (length_of (row_at rows)) n ++ line) (line_here n k row len turn)
      ∙ ap (lines_of (row_at rows) (length_of (row_at rows))) (sym (next ∙ add-one n))
