-- What waits on a channel: the elements of the vector that holds its messages, oldest first.
use Rattle.std.specs.Prelude.{List}
use Rattle.arrayvec.specs.ArrayVec.{ArrayVec}

abbrev pub waits : {T : Type 0} → ArrayVec T → List T
waits l = l.items
