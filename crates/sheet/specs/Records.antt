-- A record by its values, with no reference into the sheet.
use Rattle.std.specs.Prelude.{ℕ, List}
use Rattle.sheet.specs.declared.records.Record.{Record}
use Rattle.sheet.specs.declared.records.Record.TheVariants.{Load, Store, Deliver, MemoryTurn, Content, Note}

pub data Item : Type 0 where
  load : ℕ → ℕ → ℕ → Item  -- cache, block, word
  store : ℕ → ℕ → ℕ → ℕ → Item  -- cache, block, word, value
  deliver : ℕ → ℕ → Item  -- channel, pick
  turn : ℕ → Item  -- pick
  content : ℕ → List ℕ → Item  -- first block, bytes of whole blocks
  note : List ℕ → Item  -- text

abbrev pub item : Record → Item
item (Load c b w) = load c b w
item (Store c b w v) = store c b w v
item (Deliver k p) = deliver k p
item (MemoryTurn p) = turn p
item (Content b bs) = content b bs.now
item (Note t) = note t.now
