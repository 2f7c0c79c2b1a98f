-- A listing goes record by record.
use Rattle.std.proofs.Common.{◌≡◌, ℕ, suc, ◌+◌, List, ◌++◌, length, Some, None, Ok, Err, sym, refl, ap, ◌∙◌, append_assoc, arith}
use Rattle.std.proofs.lemmas.List.{append-nil}
use Rattle.sheet.specs.Records.{Item}
use Rattle.sheet.specs.Format.{front}
use Rattle.sheet.specs.Reads.{answer_at, left_at}
use Rattle.sheet.specs.Readings.{Reading, through, stopped, after, reading}
use Rattle.sheet.proofs.Readings.{drew_record, drew_none, drew_refusal}
use Rattle.listing.specs.Lines.{record_line, refusal_line}
use Rattle.listing.specs.Listings.{lines_from, reading_lines}

lines_after : (n : ℕ) (x : Item) (r : Reading) → reading_lines n (after x r) ≡ record_line n x ++ reading_lines (n + 1) r
lines_after n x (through xs) = refl
lines_after n x (stopped xs e) =
    let k : n + suc (length xs) ≡ (n + 1) + length xs = omega arith in
    append_assoc (record_line n x) (lines_from (n + 1) xs) (refusal_line (n + suc (length xs)) e)
    ∙ ap (λ m. record_line n x ++ (lines_from (n + 1) xs ++ refusal_line m e)) k

module _ (out all : List ℕ) (n : ℕ) (bs : List ℕ) (so_far : out ++ reading_lines n (reading bs) ≡ all) where
  -- one record more has its line
  pub listed_record : (next zs : List ℕ) (x : Item) → Ok (Some x) ≡ answer_at (front bs) → zs ≡ left_at (front bs) bs → next ≡ out ++ record_line n x → next ++ reading_lines (n + 1) (reading zs) ≡ all
  listed_record next zs x a g e =
      ap (λ l. l ++ reading_lines (n + 1) (reading zs)) e
      ∙ append_assoc out (record_line n x) (reading_lines (n + 1) (reading zs))
      ∙ ap (λ l. out ++ l) (sym (ap (reading_lines n) (drew_record bs zs x a g).0 ∙ lines_after n x (reading zs)))
      ∙ so_far

  pub listed_all : Ok None ≡ answer_at (front bs) → out ≡ all
  listed_all a = sym (append-nil out) ∙ ap (λ r. out ++ reading_lines n r) (sym (drew_none bs a)) ∙ so_far

  pub listed_refusal : (next : List ℕ) (e : ℕ) → Err e ≡ answer_at (front bs) → next ≡ out ++ refusal_line n e → next ≡ all
  listed_refusal next e a q =
      let k : n ≡ n + 0 = omega arith in
      q ∙ ap (λ m. out ++ refusal_line m e) k ∙ ap (λ r. out ++ reading_lines n r) (sym (drew_refusal bs e a)) ∙ so_far
