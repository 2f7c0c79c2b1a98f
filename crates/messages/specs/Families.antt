-- The families of messages, and the number of the channel that each is on.
use Rattle.std.specs.Prelude.{ℕ, cond, Ok, Err, Result, nat_lt}
use Rattle.messages.specs.declared.family.Family.{Family}
use Rattle.messages.specs.declared.family.Family.TheVariants.{Requests, Commands, Responses, MemoryCommands}

abbrev pub channel_of : Family → ℕ
channel_of Requests = 0
channel_of Commands = 1
channel_of Responses = 2
channel_of MemoryCommands = 3

-- A channel below k stands; any other is refused with 4.
abbrev pub channel_below : ℕ → ℕ → Result ℕ ℕ
channel_below k n = cond (nat_lt n k) (Ok n) (Err 4)
