use Rattle.std.proofs.Common.{◌≡◌, ℕ, List, IfOk, Ok, Err, vec_items, Result, sym, refl, ap, ◌∙◌}
use Rattle.machine.specs.Picking.{Picks}
use Rattle.sheet.specs.declared.head.Head.{Head}
use Rattle.sheet.specs.declared.kinds.ChannelKind.{ChannelKind}
use Rattle.sheet.specs.Heads.{head_codes}
use Rattle.sheet.specs.Kinds.{channel_code}
use Rattle.sheet.specs.Readings.{Reading}
use Rattle.player.specs.Plays.{picks_of, lines_by, reading_of}
use Rattle.player.proofs.play.play_over.Goals as goal

-- lines for every way of picking that the channels keep to, at the kind that the head names
at_kind : {X Y : Type 0} (A : Picks → Type 0) (r : Result X Y) (items : X → List ℕ) (h : Head) (l : Reading) (kind : ChannelKind) → h.channels ≡ kind
    → IfOk r (λ v. (k : Picks) → A k → items v ≡ lines_by k (head_codes h) l) → A (picks_of (channel_code kind)) → IfOk r (λ v. items v ≡ lines_by (picks_of (head_codes h).channels) (head_codes h) l)
at_kind A (Ok v) items h l kind e holds a = holds (picks_of (channel_code kind)) a ∙ ap (λ (x : ChannelKind). lines_by (picks_of (channel_code x)) (head_codes h) l) (sym e)
at_kind A (Err y) items h l kind e holds a = tt

pub returns-in-Unordered : goal.returns-in-Unordered
returns-in-Unordered g c =
    at_kind _ c.play_on.result vec_items c.args.head.now (reading_of (vec_items c.args.sheet.now.bytes)) _ c.in-Unordered.is c.play_on.ensures
    (record { requests = λ x p. refl; commands = λ x p. refl; responses = λ x p. refl; memory_commands = λ x p. refl })

pub returns-in-Paired : goal.returns-in-Paired
returns-in-Paired g c =
    at_kind _ c.play_on-in-Paired.result vec_items c.args.head.now (reading_of (vec_items c.args.sheet.now.bytes)) _ c.in-Paired.is c.play_on-in-Paired.ensures
    (record { requests = λ x p. refl; commands = λ x p. refl; responses = λ x p. refl; memory_commands = λ x p. refl })

pub returns-in-SingleFile : goal.returns-in-SingleFile
returns-in-SingleFile g c =
    at_kind _ c.play_on-in-SingleFile.result vec_items c.args.head.now (reading_of (vec_items c.args.sheet.now.bytes)) _ c.in-SingleFile.is c.play_on-in-SingleFile.ensures
    (record { requests = λ x p. refl; commands = λ x p. refl; responses = λ x p. refl; memory_commands = λ x p. refl })
