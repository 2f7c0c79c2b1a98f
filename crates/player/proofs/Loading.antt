-- Contents and calls are taken record by record.
use Rattle.std.proofs.Common.{◌≡◌, ℕ, Bool, true, false, cond, eqb, List, [], ◌∷◌, ◌++◌, length, Some, None, Ok, Err, sym, refl, ap, ◌∙◌, append_assoc, arith}
use Rattle.std.proofs.lemmas.List.{append-nil}
use Rattle.std.proofs.lemmas.Bool.{ne_eqb}
use Rattle.bedrock.specs.declared.words.Words.{Words}
use Rattle.machine.specs.declared.fabric_call.FabricCall.{FabricCall}
use Rattle.sheet.specs.Records.{Item, load, store, deliver, turn, content, note}
use Rattle.sheet.specs.Format.{front}
use Rattle.sheet.specs.Reads.{answer_at, left_at}
use Rattle.sheet.specs.Readings.{Reading, through, stopped, after, reading}
use Rattle.sheet.proofs.Readings.{drew_record, drew_none, drew_refusal}
use Rattle.player.specs.Calls.{call_of, calls_in, items_in}
use Rattle.player.specs.Contents.{after_record, starting_content}

pub items_after : (x : Item) (r : Reading) → items_in (after x r) ≡ x ∷ items_in r
items_after x (through xs) = refl
items_after x (stopped xs e) = refl

abbrev none : List FabricCall → Bool
none [] = true
none (y ∷ ys) = false

none_is : (ys : List FabricCall) → eqb (length ys) 0 ≡ none ys
none_is [] = refl
none_is (y ∷ ys) = ne_eqb (length (y ∷ ys)) 0 (λ e. omega arith)

-- what the memory holds in the end, where these calls were met already
abbrev pub content_after : ℕ → List FabricCall → (ℕ → Words) → List Item → ℕ → Words
content_after blocks ys m xs = cond (none ys) (starting_content blocks m xs) m

content_step : (blocks : ℕ) (ys : List FabricCall) (m : ℕ → Words) (x : Item) (xs : List Item)
    → content_after blocks (ys ++ call_of x) (after_record blocks (none ys) m x) xs ≡ content_after blocks ys m (x ∷ xs)
content_step blocks [] m (load c b w) xs = refl
content_step blocks [] m (store c b w v) xs = refl
content_step blocks [] m (deliver k p) xs = refl
content_step blocks [] m (turn p) xs = refl
content_step blocks [] m (content b bs) xs = refl
content_step blocks [] m (note t) xs = refl
content_step blocks (y ∷ ys) m (load c b w) xs = refl
content_step blocks (y ∷ ys) m (store c b w v) xs = refl
content_step blocks (y ∷ ys) m (deliver k p) xs = refl
content_step blocks (y ∷ ys) m (turn p) xs = refl
content_step blocks (y ∷ ys) m (content b bs) xs = refl
content_step blocks (y ∷ ys) m (note t) xs = refl

content_end : (blocks : ℕ) (ys : List FabricCall) (m : ℕ → Words) → content_after blocks ys m [] ≡ m
content_end blocks [] m = refl
content_end blocks (y ∷ ys) m = refl

-- with these calls so far, those of what is left are all, and so is the content
pub record Loaded (blocks : ℕ) (calls : List FabricCall) (content : ℕ → Words) (ys : List FabricCall) (m : ℕ → Words) (bs : List ℕ) : Type 0 where
  pub calls_left : ys ++ calls_in (items_in (reading bs)) ≡ calls
  pub content_left : content_after blocks ys m (items_in (reading bs)) ≡ content

-- before the first record
pub loaded_none : (blocks : ℕ) (m : ℕ → Words) (bs : List ℕ) (ys : List FabricCall) → ys ≡ []
    → Loaded blocks (calls_in (items_in (reading bs))) (starting_content blocks m (items_in (reading bs))) ys m bs
loaded_none blocks m bs ys e = record {
  calls_left = ap (λ l. l ++ calls_in (items_in (reading bs))) e;
  content_left = ap (λ l. content_after blocks l m (items_in (reading bs))) e;
}

module _ {blocks : ℕ} {calls : List FabricCall} {content : ℕ → Words} {ys : List FabricCall} {m : ℕ → Words} {bs : List ℕ} (so_far : Loaded blocks calls content ys m bs) where
  -- one record more
  pub loaded_record : (ys' : List FabricCall) (m' : ℕ → Words) (zs : List ℕ) (x : Item) (early : Bool) (len : ℕ) → Ok (Some x) ≡ answer_at (front bs) → zs ≡ left_at (front bs) bs
      → ys' ≡ ys ++ call_of x → early ≡ eqb len 0 → len ≡ length ys → m' ≡ after_record blocks early m x → Loaded blocks calls content ys' m' zs
  loaded_record ys' m' zs x early len a g y first i w =
      let e : items_in (reading bs) ≡ x ∷ items_in (reading zs) = ap items_in (drew_record bs zs x a g).0 ∙ items_after x (reading zs) in
      record {
        calls_left = ap (λ l. l ++ calls_in (items_in (reading zs))) y ∙ append_assoc ys (call_of x) (calls_in (items_in (reading zs)))
            ∙ ap (λ l. ys ++ calls_in l) (sym e) ∙ so_far.calls_left;
        content_left = ap (λ l. content_after blocks l m' (items_in (reading zs))) y
            ∙ ap (λ k. content_after blocks (ys ++ call_of x) k (items_in (reading zs))) (w ∙ ap (λ b. after_record blocks b m x) (first ∙ ap (λ n. eqb n 0) i ∙ none_is ys))
            ∙ content_step blocks ys m x (items_in (reading zs))
            ∙ ap (content_after blocks ys m) (sym e) ∙ so_far.content_left;
      }

  none_left : items_in (reading bs) ≡ [] → (ys ≡ calls) × (m ≡ content)
  none_left e = (
    sym (append-nil ys) ∙ ap (λ l. ys ++ calls_in l) (sym e) ∙ so_far.calls_left,
    sym (content_end blocks ys m) ∙ ap (content_after blocks ys m) (sym e) ∙ so_far.content_left,
  )

  -- at the end, and at a record that is refused
  pub loaded_all : Ok None ≡ answer_at (front bs) → (ys ≡ calls) × (m ≡ content)
  loaded_all a = none_left (ap items_in (drew_none bs a))

  pub loaded_refusal : (n : ℕ) → Err n ≡ answer_at (front bs) → (ys ≡ calls) × (m ≡ content)
  loaded_refusal n a = none_left (ap items_in (drew_refusal bs n a))
