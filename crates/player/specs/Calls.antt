-- The records of a sheet that are calls of the fabric.
use Rattle.std.specs.Prelude.{ℕ, Bool, List, [], ◌∷◌, ◌++◌, length, ◌==◌}
use Rattle.machine.specs.declared.order.Order.TheVariants.{Load, Store}
use Rattle.machine.specs.declared.fabric_call.FabricCall.{FabricCall}
use Rattle.machine.specs.declared.fabric_call.FabricCall.TheVariants as made
use Rattle.sheet.specs.Records.{Item, load, store, deliver, turn, content, note}
use Rattle.sheet.specs.Readings.{Reading, through, stopped}

-- the call that a record is; a content and a note are none
abbrev pub call_of : Item → List FabricCall
call_of (load c b w) = made.Order c (Load b w) ∷ []
call_of (store c b w v) = made.Order c (Store b w v) ∷ []
call_of (deliver k p) = made.Deliver k p ∷ []
call_of (turn p) = made.MemoryTurn p ∷ []
call_of (content b bs) = []
call_of (note t) = []

-- how many calls a record is: one or none
abbrev pub call_count : Item → ℕ
call_count x = length (call_of x)

abbrev pub is_call : Item → Bool
is_call x = call_count x == 1

abbrev pub calls_in : List Item → List FabricCall
calls_in [] = []
calls_in (x ∷ xs) = call_of x ++ calls_in xs

-- the records of a reading, to its end or to the one that is refused
abbrev pub items_in : Reading → List Item
items_in (through xs) = xs
items_in (stopped xs e) = xs
