-- The rows of a protocol, and the four laws that each must keep.
use Rattle.std.specs.Prelude.{Bool, false, not, ◌&&◌, ◌||◌}
use Rattle.protocols.specs.declared.state.State.{State}
use Rattle.protocols.specs.declared.state.State.TheVariants.{I, S, M, O, F}
use Rattle.protocols.specs.declared.row.Row.{Row}
use Rattle.protocols.specs.States.{same_state, held, owning, writable, dirty, may_be_dirty}

-- owner's next, requestor's next, write back
abbrev pub row_of : State → State → Bool → Row
row_of o r w = record { owner = o; requestor = r; writeback = w }

-- a Write gives the requestor M and another owner I, without write back
abbrev pub write_row : Row
write_row = row_of I M false

abbrev implies : Bool → Bool → Bool
implies a b = not a || b

-- Law 1. From I or S the requestor gets S or F; from I it may also get E or M.
abbrev pub unowned_law : State → Row → Bool
unowned_law s r =
    implies (not (owning s))
    (same_state r.requestor S || (same_state r.requestor F || (same_state s I && writable r.requestor)))

-- Law 2. From E, M, O or F the owner's next is I, S, O or F and the requestor's is not I; at most one of the two lies outside I and S.
abbrev pub handover_law : State → Row → Bool
handover_law s r = implies (owning s) (not (writable r.owner) && (held r.requestor && not (owning r.owner && owning r.requestor)))

-- Law 3. Such a requestor gets E or M only if the old state was E or M and the owner's next is I.
abbrev pub exclusive_law : State → Row → Bool
exclusive_law s r = implies (owning s && writable r.requestor) (writable s && same_state r.owner I)

-- Law 4. From E, M or O without write back the owner's next is O, or the requestor's is O or M.
abbrev pub dirty_law : State → Row → Bool
dirty_law s r = implies (may_be_dirty s && not r.writeback) (same_state r.owner O || dirty r.requestor)

abbrev pub lawful : State → Row → Bool
lawful s r = unowned_law s r && (handover_law s r && (exclusive_law s r && dirty_law s r))
