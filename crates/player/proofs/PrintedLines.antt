-- Lines are printed record by record.
use Rattle.std.proofs.Common.{◌≡◌, ℕ, suc, ◌+◌, Bool, true, false, not, ◌&&◌, eqb, List, ◌++◌, length, drop, is_some, Some, None, Ok, Err, Option, sym, refl, ap, ◌∙◌, append_assoc, arith}
use Rattle.std.specs.Option.{option_to_list}
use Rattle.std.proofs.lemmas.List.{append-nil}
use Rattle.machine.specs.declared.fabric_call.FabricCall.{FabricCall}
use Rattle.machine.specs.Outcomes.{Said}
use Rattle.sheet.specs.Records.{Item}
use Rattle.sheet.specs.Format.{front}
use Rattle.sheet.specs.Reads.{answer_at, left_at}
use Rattle.sheet.specs.Readings.{Reading, through, stopped, after, reading}
use Rattle.sheet.proofs.Readings.{drew_record, drew_none, drew_refusal}
use Rattle.player.specs.Calls.{call_of, is_call, call_count}
use Rattle.player.specs.Lines.{record_line, refusal_line, lines_from, reading_lines}

-- a record that gives no call is none
pub no_call : (o : Option FabricCall) (x : Item) (none : Bool) → option_to_list o ≡ call_of x → is_some o ≡ not none → none ≡ not (is_call x)
no_call o x none e s = is_call_of o (call_of x) none e s
  where
    is_call_of : (o : Option FabricCall) (ys : List FabricCall) (none : Bool) → option_to_list o ≡ ys → is_some o ≡ not none → none ≡ not (eqb (length ys) 1)
    is_call_of None ys true e s = ap (λ l. not (eqb (length l) 1)) e
    is_call_of None ys false e s = absurd (cc)
    is_call_of (Some c) ys true e s = absurd (cc)
    is_call_of (Some c) ys false e s = ap (λ l. not (eqb (length l) 1)) e

lines_after : (blocks n : ℕ) (early : Bool) (x : Item) (r : Reading) (says : List Said)
    → reading_lines blocks n early (after x r) says ≡ record_line blocks n early says x ++ reading_lines blocks (n + 1) (early && not (is_call x)) r (drop (call_count x) says)
lines_after blocks n early x (through xs) says = refl
lines_after blocks n early x (stopped xs e) says =
    let k : n + suc (length xs) ≡ (n + 1) + length xs = omega arith in
    let rest = lines_from blocks (n + 1) (early && not (is_call x)) xs (drop (call_count x) says) in
    append_assoc (record_line blocks n early says x) rest (refusal_line (n + suc (length xs)) e)
    ∙ ap (λ m. record_line blocks n early says x ++ (rest ++ refusal_line m e)) k

-- the lines so far, and those of what is left, are all
pub record Printed (blocks : ℕ) (all out : List ℕ) (n : ℕ) (early : Bool) (says : List Said) (bs : List ℕ) : Type 0 where
  pub lines_left : out ++ reading_lines blocks n early (reading bs) says ≡ all

module _ {blocks : ℕ} {all out : List ℕ} {n : ℕ} {early : Bool} {says : List Said} {bs : List ℕ} (so_far : Printed blocks all out n early says bs) where
  -- one record more has its line
  pub printed_record : (next line zs : List ℕ) (n' : ℕ) (later : Bool) (rest : List Said) (x : Item) → Ok (Some x) ≡ answer_at (front bs) → zs ≡ left_at (front bs) bs
      → next ≡ out ++ line → line ≡ record_line blocks n early says x → later ≡ (early && not (is_call x)) → rest ≡ drop (call_count x) says → n' ≡ n + 1 → Printed blocks all next n' later rest zs
  printed_record next line zs n' later rest x a g e f l r i =
      let mine = record_line blocks n early says x in
      record {
        lines_left = rw (e, f, l, r, i) (append_assoc out mine (reading_lines blocks (n + 1) (early && not (is_call x)) (reading zs) (drop (call_count x) says))
            ∙ ap (λ w. out ++ w) (sym (lines_after blocks n early x (reading zs) says))
            ∙ ap (λ w. out ++ reading_lines blocks n early w says) (sym (drew_record bs zs x a g).0)
            ∙ so_far.lines_left);
      }

  pub printed_all : Ok None ≡ answer_at (front bs) → out ≡ all
  printed_all a = sym (append-nil out) ∙ ap (λ r. out ++ reading_lines blocks n early r says) (sym (drew_none bs a)) ∙ so_far.lines_left

  pub printed_refusal : (next : List ℕ) (e : ℕ) → Err e ≡ answer_at (front bs) → next ≡ out ++ refusal_line n e → next ≡ all
  printed_refusal next e a q =
      let m : n ≡ n + 0 = omega arith in
      q ∙ ap (λ j. out ++ refusal_line j e) m ∙ ap (λ r. out ++ reading_lines blocks n early r says) (sym (drew_refusal bs e a)) ∙ so_far.lines_left
