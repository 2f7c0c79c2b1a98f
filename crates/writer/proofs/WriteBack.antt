-- What is read was written: a record, the records, the head.
use Rattle.std.proofs.Common.{◌≡◌, ℕ, zero, suc, true, eqb, ltb, leb, List, [], ◌∷◌, ◌++◌, length, get_or, drop, Ok, sym, ap, ◌∙◌}
use Rattle.std.proofs.lemmas.Bool.{leb-true, eqb-true, cond_both, and_parts}
use Rattle.sheet.specs.declared.head.HeadCodes.{HeadCodes}
use Rattle.sheet.specs.Bytes.{Bytes}
use Rattle.sheet.specs.Heads.{in_bounds, head_bytes, head_of, marked, codes_in}
use Rattle.sheet.specs.Records.{Item}
use Rattle.sheet.specs.Format.{encode}
use Rattle.sheet.specs.Readings.{reading, through}
use Rattle.sheet.proofs.Bytes.{places, bytes_of_field, opened, byte_at}
use Rattle.sheet.proofs.Fronts.{front_end, front_back, front_none}
use Rattle.sheet.proofs.Readings.{reading_none, reading_more}
use Rattle.writer.specs.RoundTrips.{written}

pub bytes_after : (n : ℕ) (bs : List ℕ) → Bytes bs → Bytes (drop n bs)
bytes_after zero bs h = h
bytes_after (suc n) [] h = h
bytes_after (suc n) (b ∷ bs) h = bytes_after n bs h.1

pub records_written : (xs : List Item) (bs : List ℕ) → Bytes bs → reading bs ≡ through xs → written xs ≡ bs
records_written [] bs h e = front_none bs (reading_none bs e)
records_written (x ∷ xs) bs h e =
    let m = reading_more bs x xs e in
    let s = front_end bs x m.0 m.1 in
    ap (λ l. encode x ++ l) (records_written xs m.0 (rw s.2 (bytes_after s.0 bs h)) m.2) ∙ sym (front_back bs x m.0 h m.1)

-- the head is its codes, and they stand in it
head_is : (bs : List ℕ) (h : HeadCodes) → head_of bs ≡ Ok h → (marked bs ≡ true) × (codes_in bs ≡ h)
head_is bs h =
    cond_both (ltb 32768 (length bs)) _ _ (λ r. r ≡ Ok h → (marked bs ≡ true) × (codes_in bs ≡ h))
    (λ _ e. cc)
    (λ _. cond_both (marked bs) _ _ (λ r. r ≡ Ok h → (marked bs ≡ true) × (codes_in bs ≡ h))
    (λ m. cond_both (in_bounds (codes_in bs)) _ _ (λ r. r ≡ Ok h → (marked bs ≡ true) × (codes_in bs ≡ h))
    (λ _ e. (m, (cc)))
    (λ _ e. cc))
    (λ _ e. cc))

marked_codes : (bs : List ℕ) → Bytes bs → marked bs ≡ true → head_bytes (codes_in bs) ++ drop 13 bs ≡ bs
marked_codes bs h t =
    let l = and_parts (leb 13 (length bs)) _ t in
    let m = and_parts (eqb (get_or bs 0 0) 77) _ l.1 in
    let o = and_parts (eqb (get_or bs 1 0) 79) _ m.1 in
    let s = and_parts (eqb (get_or bs 2 0) 83) _ o.1 in
    let v = and_parts (eqb (get_or bs 3 0) 1) (eqb (get_or bs 4 0) 0) s.1 in
    let blocks = bytes_of_field 2 11 bs (byte_at bs h) in
    let codes : head_bytes (codes_in bs) ≡ places 0 13 bs =
    rw (eqb-true _ _ m.0, eqb-true _ _ o.0, eqb-true _ _ s.0, eqb-true _ _ v.0, eqb-true _ _ v.1)
    (ap (λ l. 77 ∷ 79 ∷ 83 ∷ 1 ∷ 0 ∷ get_or bs 5 0 ∷ get_or bs 6 0 ∷ get_or bs 7 0 ∷ get_or bs 8 0 ∷ get_or bs 9 0 ∷ get_or bs 10 0 ∷ l) blocks) in
    ap (λ l. l ++ drop 13 bs) codes ∙ sym (opened 13 bs (leb-true 13 (length bs) l.0))

pub head_written : (bs : List ℕ) (h : HeadCodes) → Bytes bs → head_of bs ≡ Ok h → head_bytes h ++ drop 13 bs ≡ bs
head_written bs h b e = let p = head_is bs h e in rw (← p.1) (marked_codes bs b p.0)
