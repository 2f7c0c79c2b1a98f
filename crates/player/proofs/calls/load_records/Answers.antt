use Rattle.std.proofs.Common.{◌≡◌, ◌<◌, List, ◌++◌, length, None, vec_items, vec_len, sym, ap, ◌∙◌}
use Rattle.std.proofs.lemmas.List.{append-nil}
use Rattle.machine.specs.declared.fabric_call.FabricCall.{FabricCall}
use Rattle.sheet.specs.Reads.{left}
use Rattle.sheet.specs.Readings.{reading}
use Rattle.sheet.specs.Records.{item}
use Rattle.sheet.proofs.Readings.{drew_record}
use Rattle.player.specs.Calls.{call_of, calls_in, items_in}
use Rattle.player.specs.Contents.{starting_content}
use Rattle.player.proofs.Loading.{Loaded, loaded_record, loaded_all, loaded_refusal}
use Rattle.player.proofs.calls.load_records.Given as given
use Rattle.player.proofs.calls.load_records.Goals as goal
use Rattle.player.proofs.calls.load_records.Goals.{In-Ok-Some, After-call_in, in_default, in_default-2}

-- a record, with its call or with none
smaller : (g : given.Over) (c : In-Ok-Some g) → length (left c.next_record.new.self) < length (left c.loop-rec.reader)
smaller g c = (drew_record _ _ _ (rw c.in-Ok-Some.field-0-is at c.in-Ok-Some.ensures.answers) c.in-Ok-Some.ensures.goes).1

pub loop-rec-smaller-in_ok-push : goal.loop-rec-smaller-in_ok-push
loop-rec-smaller-in_ok-push g c = smaller g (goal.at.loop-rec-smaller-in_ok-push g c).In-Ok-Some

pub loop-rec-smaller : goal.loop-rec-smaller
loop-rec-smaller g c = smaller g (goal.at.loop-rec-smaller g c).In-Ok-Some

more : (g : given.Over) (c : After-call_in g) (ys : List FabricCall) → ys ≡ vec_items c.loop-rec.calls ++ call_of (item c.in-Ok-Some.rec)
    → Loaded c.args.blocks (calls_in (items_in (reading (left c.args.reader.now)))) (starting_content c.args.blocks (g.M.Memory.blocks c.args.memory.now) (items_in (reading (left c.args.reader.now))))
    ys (g.M.Memory.blocks c.take_record.new.memory) (left c.next_record.new.self)
more g c ys y =
    loaded_record c.loop-rec.invariant ys _ (left c.next_record.new.self) (item c.in-Ok-Some.rec) c.is_empty.result (vec_len c.loop-rec.calls)
    (rw c.in-Ok-Some.field-0-is at c.in-Ok-Some.ensures.answers) c.in-Ok-Some.ensures.goes y c.is_empty.ensures c.loop-rec.calls.ok.0 c.take_record.ensures

pub loop-rec-preserved-in_ok-push : goal.loop-rec-preserved-in_ok-push
loop-rec-preserved-in_ok-push g c =
    more g (goal.at.loop-rec-preserved-in_ok-push g c).After-call_in (vec_items c.push.new.self)
    (c.in_ok-push.ensures.items ∙ ap (λ l. vec_items c.loop-rec.calls ++ l) c.in-Some.ensures)

pub loop-rec-preserved : goal.loop-rec-preserved
loop-rec-preserved g c =
    more g (goal.at.loop-rec-preserved g c).After-call_in (vec_items c.loop-rec.calls)
    (sym (append-nil (vec_items c.loop-rec.calls)) ∙ ap (λ l. vec_items c.loop-rec.calls ++ l) c.in_default-call_in.ensures)

pub returns : goal.returns
returns g c = elim c.match-next_record.branch [
  | in_default w ↦ let none : w.in_default.field-0 ≡ None = cc in loaded_all c.loop-rec.invariant (rw (w.in_default.is, none) at c.next_record.ensures.answers)
  | in_default-2 w ↦ loaded_refusal c.loop-rec.invariant _ (rw w.in_default.is at c.next_record.ensures.answers)
]
