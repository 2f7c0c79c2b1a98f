-- What each message is about: its block, and the cache that gets or sends it.
use Rattle.std.specs.Prelude.{ℕ}
use Rattle.protocols.specs.declared.state.State.TheVariants.{I}
use Rattle.messages.specs.declared.command.Command.{Command}
use Rattle.messages.specs.declared.command.Command.TheVariants.{Invalidate, SetStateWriteback, Transfer, SetTagData, SetStateWakeup}
use Rattle.messages.specs.declared.response.Response.{Response}
use Rattle.messages.specs.declared.response.Response.TheVariants.{InvalidateAck, CoherenceAck, Writeback, NullWriteback}
use Rattle.messages.specs.declared.memory_command.MemoryCommand.{MemoryCommand}
use Rattle.messages.specs.declared.memory_command.MemoryCommand.TheVariants.{Read, Write}

-- the cache that gets a command
abbrev pub command_cache : Command → ℕ
command_cache (Invalidate cache block way) = cache
command_cache (SetStateWriteback cache block way) = cache
command_cache (Transfer cache block way requestor requestor_way owner_next requestor_next writeback) = cache
command_cache (SetTagData cache block way next words sender) = cache
command_cache (SetStateWakeup cache block way) = cache

abbrev pub command_block : Command → ℕ
command_block (Invalidate cache block way) = block
command_block (SetStateWriteback cache block way) = block
command_block (Transfer cache block way requestor requestor_way owner_next requestor_next writeback) = block
command_block (SetTagData cache block way next words sender) = block
command_block (SetStateWakeup cache block way) = block

-- the cache that sends a response
abbrev pub response_cache : Response → ℕ
response_cache (InvalidateAck cache block) = cache
response_cache (CoherenceAck cache block) = cache
response_cache (Writeback cache block words) = cache
response_cache (NullWriteback cache block) = cache

abbrev pub response_block : Response → ℕ
response_block (InvalidateAck cache block) = block
response_block (CoherenceAck cache block) = block
response_block (Writeback cache block words) = block
response_block (NullWriteback cache block) = block

abbrev pub memory_command_block : MemoryCommand → ℕ
memory_command_block (Read block requestor way next) = block
memory_command_block (Write block words) = block

-- what fills the free room of a channel
abbrev pub blank_command : Command
blank_command = Invalidate 0 0 0

abbrev pub blank_response : Response
blank_response = InvalidateAck 0 0

abbrev pub blank_memory_command : MemoryCommand
blank_memory_command = Read 0 0 0 I
