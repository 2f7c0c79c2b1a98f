-- What a call answers, and the machine after it.
use Rattle.std.specs.Prelude.{ℕ, Ok, Err, Result}
use Rattle.bedrock.specs.declared.refusal.Refusal.{Refusal}
use Rattle.bedrock.specs.Refusals.{number}
use Rattle.machine.specs.declared.answer.Answer.{Answer}
use Rattle.machine.specs.declared.answer.Answer.TheVariants as answer
use Rattle.machine.specs.Machines.{Machine}

-- An accepted call moves on, or finishes an order: a cache's load or store, with the word's value. A refused one answers its number only.
pub data Said : Type 0 where
  moved_on : Said
  loaded : ℕ → ℕ → Said  -- cache, value
  stored : ℕ → ℕ → Said  -- cache, value
  refused : ℕ → Said  -- number

-- what the code's answer says
abbrev pub said : Result Answer Refusal → Said
said (Ok answer.MovedOn) = moved_on
said (Ok (answer.Loaded c v)) = loaded c v
said (Ok (answer.Stored c v)) = stored c v
said (Err e) = refused (number e)

pub record Outcome : Type 0 where
  pub says : Said
  pub after : Machine

-- a refusal leaves the machine as it was
abbrev pub refuse : Machine → ℕ → Outcome
refuse m n = record { says = refused n; after = m }

abbrev pub move_on : Machine → Outcome
move_on m = record { says = moved_on; after = m }

-- what the code's answer says, with the machine after it
abbrev pub answered : Result Answer Refusal → Machine → Outcome
answered r m = record { says = said r; after = m }
