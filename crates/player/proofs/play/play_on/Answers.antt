use Rattle.std.proofs.Common.{◌≡◌, ℕ, true, List, map, vec_items, ap, ◌∙◌}
use Rattle.std.proofs.lemmas.Result.{IfOk-weaker}
use Rattle.bedrock.specs.declared.words.Words.{Words}
use Rattle.bedrock.specs.Geometries.{sizes}
use Rattle.protocols.specs.declared.state.State.{State}
use Rattle.protocols.specs.declared.row.Row.{Row}
use Rattle.protocols.specs.Tables.{read_row}
use Rattle.machine.specs.declared.fabric_call.FabricCall.{FabricCall}
use Rattle.machine.specs.Machines.{Machine, new}
use Rattle.machine.specs.Outcomes.{Said, said}
use Rattle.machine.specs.Picking.{heard}
use Rattle.sheet.specs.Heads.{head_codes}
use Rattle.sheet.specs.Records.{Item}
use Rattle.sheet.specs.Readings.{Reading, reading}
use Rattle.sheet.specs.Reads.{left}
use Rattle.sheet.specs.declared.head.HeadCodes.{HeadCodes}
use Rattle.runs.specs.Following.{all_said}
use Rattle.player.specs.Calls.{calls_in, items_in}
use Rattle.player.specs.Contents.{starting_content}
use Rattle.player.specs.Lines.{reading_lines}
use Rattle.player.specs.Plays.{reading_of, rows_of, content_of, start_of, answers_by, lines_by}
use Rattle.player.proofs.Tying.{rows_of_code, ran_heard}
use Rattle.player.proofs.play.play_on.Goals as goal

pub returns : goal.returns
unfolding lines_by
returns g c =
    let head = c.args.head.now in
    let h : HeadCodes = head_codes head in
    let r : Reading = reading_of (vec_items c.args.sheet.now.bytes) in
    let xs : List Item = items_in r in
    let first : reading (left c.records-reader.result) ≡ r = ap reading c.records-reader.ensures in
    let again : reading (left c.records-again.result) ≡ r = ap reading c.records-again.ensures in
    let blocks : c.blocks-blocks.result ≡ h.blocks = c.blocks-blocks.ensures in
    let loaded = c.in_ok-calls.ensures in
    let content : g.B.Memory.Memory.blocks c.load_records.new.memory ≡ content_of h xs =
    loaded.1
    ∙ ap (λ (n : ℕ). starting_content n (g.B.Memory.Memory.blocks c.new-memory.result) (items_in (reading (left c.records-reader.result)))) blocks
    ∙ ap (λ (m : ℕ → Words). starting_content h.blocks m (items_in (reading (left c.records-reader.result)))) c.new-memory.ensures
    ∙ ap (λ (l : Reading). content_of h (items_in l)) first in
    let start : new (sizes head.geometry) (read_row head.protocol) (g.B.Memory.Memory.blocks c.load_records.new.memory) ≡ start_of h xs =
    ap (λ (rows : State → Row). new (sizes head.geometry) rows (g.B.Memory.Memory.blocks c.load_records.new.memory)) (rows_of_code head.protocol)
    ∙ ap (λ (m : ℕ → Words). new (sizes head.geometry) (rows_of h.protocol) m) content in
    let calls : c.as_slice.result.now ≡ calls_in xs = c.as_slice.ensures.value ∙ loaded.0 ∙ ap (λ (l : Reading). calls_in (items_in l)) first in
    IfOk-weaker c.record_lines.result _ _
    (λ v e k picked.
    let answers : map said c.as_slice-2.result.now ≡ answers_by k h xs =
    ap (map said) c.as_slice-2.ensures.value
    ∙ ran_heard read_row (record { waiting = g.B.Requests.Channel.waiting; chosen = g.B.Requests.Channel.chosen }) (record { waiting = g.B.Commands.Channel.waiting; chosen = g.B.Commands.Channel.chosen })
    (record { waiting = g.B.Responses.Channel.waiting; chosen = g.B.Responses.Channel.chosen }) (record { waiting = g.B.MemoryCommands.Channel.waiting; chosen = g.B.MemoryCommands.Channel.chosen }) g.B.Memory.Memory.blocks k picked
    (new (sizes head.geometry) (read_row head.protocol) (g.B.Memory.Memory.blocks c.load_records.new.memory)) c.as_slice.result.now (all_said (vec_items c.in_ok-done.done.answers))
    c.in_ok-done.done.fabric c.in_ok-done.ensures
    ∙ ap (λ (m : Machine). heard k m c.as_slice.result.now) start
    ∙ ap (λ (l : List FabricCall). heard k (start_of h xs) l) calls in
    e
    ∙ ap (λ (n : ℕ). reading_lines n 1 true (reading (left c.records-again.result)) (map said c.as_slice-2.result.now)) blocks
    ∙ ap (λ (l : Reading). reading_lines h.blocks 1 true l (map said c.as_slice-2.result.now)) again
    ∙ ap (λ (l : List Said). reading_lines h.blocks 1 true r l) answers)
    c.record_lines.ensures
