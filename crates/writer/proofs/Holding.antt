-- What a page holds, as the writer goes on.
use Rattle.std.proofs.Common.{◌≡◌, ℕ, ◌+◌, ◌≤◌, true, List, [], ◌∷◌, ◌++◌, length, take, sym, refl, ap, ◌∙◌, subst, append_assoc, arith}
use Rattle.std.specs.List.{AllByRecursion}
use Rattle.std.proofs.lemmas.List.{append-nil, length-take}
use Rattle.sheet.specs.declared.head.HeadCodes.{HeadCodes}
use Rattle.sheet.specs.Heads.{in_bounds, head_bytes}
use Rattle.sheet.specs.Records.{Item, load, store, deliver, turn, content, note}
use Rattle.sheet.specs.Format.{encode, size, proper}
use Rattle.writer.specs.Writes.{Page, pasted, sheet_on}
use Rattle.writer.specs.RoundTrips.{written, sheet_bytes, InFields, Holds, ReadsAs}
use Rattle.writer.proofs.Ends.{Fits}
use Rattle.writer.proofs.Pastes.{taken}
use Rattle.writer.proofs.RoundTrips.{reads_back}

-- a record is as long as its size says
size_is : (x : Item) → length (encode x) ≡ size x
size_is (load c b w) = refl
size_is (store c b w v) = refl
size_is (deliver k p) = refl
size_is (turn p) = refl
size_is (content b bs) = omega arith
size_is (note t) = omega arith

written_more : (xs : List Item) (x : Item) → written (xs ++ x ∷ []) ≡ written xs ++ encode x
written_more [] x = append-nil (encode x)
written_more (y ∷ xs) x = ap (λ l. encode y ++ l) (written_more xs x) ∙ sym (append_assoc (encode y) (written xs) (encode x))

all_more : (P : Item → Type 0) (xs : List Item) (x : Item) → AllByRecursion P xs → P x → AllByRecursion P (xs ++ x ∷ [])
all_more P [] x h p = (p, tt)
all_more P (y ∷ xs) x h p = (h.0, all_more P xs x h.1 p)

pub holds_none : (bs ys : List ℕ) (h : HeadCodes) → in_bounds h ≡ true → ys ≡ pasted bs 0 (head_bytes h) → Holds (record { bytes = ys; end = 13 }) h []
holds_none bs ys h b e = record {
  bytes = ap (take 13) e ∙ taken bs 0 (head_bytes h) (omega arith) ∙ sym (append-nil (head_bytes h));
  takes = record { bounds = b; fields = tt; lengths = tt; few = omega arith };
}

module _ (p q : Page) (h : HeadCodes) (xs : List Item) (x : Item) (held : Holds p h xs) (fits : Fits p.end (length p.bytes) x q.end) where
  sheet_more : q.bytes ≡ pasted p.bytes p.end (encode x) → sheet_on q ≡ sheet_bytes h (xs ++ x ∷ [])
  sheet_more e =
      let n : q.end ≡ p.end + length (encode x) = omega (arith, fits.ends, size_is x) in
      rw (n, e) (taken p.bytes p.end (encode x) (omega (arith, fits.within)))
      ∙ ap (λ l. l ++ encode x) held.bytes
      ∙ append_assoc (head_bytes h) (written xs) (encode x)
      ∙ ap (λ l. head_bytes h ++ l) (sym (written_more xs x))

  pub holds_more : p.end ≤ length p.bytes → InFields x → q.bytes ≡ pasted p.bytes p.end (encode x) → Holds q h (xs ++ x ∷ [])
  holds_more i f e =
      let s = sheet_more e in
      record {
        bytes = s;
        takes = record {
          bounds = held.takes.bounds;
          fields = all_more InFields xs x held.takes.fields f;
          lengths = all_more (λ y. proper y ≡ true) xs x held.takes.lengths fits.good;
          few = omega (arith, ap length s, length-take q.end q.bytes, fits.ends, fits.few);
        };
      }

pub holds_reads : (p : Page) (h : HeadCodes) (xs : List Item) → Holds p h xs → ReadsAs (sheet_on p) h xs
holds_reads p h xs held = let P : List ℕ → Type 0 = λ l. ReadsAs l h xs in subst P (sym held.bytes) (reads_back h xs held.takes)
