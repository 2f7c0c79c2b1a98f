-- Who sends each message, and who gets it.
use Rattle.bedrock.specs.declared.party.Party.{Party}
use Rattle.bedrock.specs.declared.party.Party.TheVariants.{Cache, Directory, Memory}
use Rattle.messages.specs.declared.request.Request.{Request}
use Rattle.messages.specs.declared.command.Command.{Command}
use Rattle.messages.specs.declared.command.Command.TheVariants.{Invalidate, SetStateWriteback, Transfer, SetTagData, SetStateWakeup}
use Rattle.messages.specs.declared.response.Response.{Response}
use Rattle.messages.specs.declared.memory_command.MemoryCommand.{MemoryCommand}
use Rattle.messages.specs.Messages.{command_cache, response_cache}

-- a request goes from its cache to the directory
abbrev pub request_from : Request → Party
request_from q = Cache q.cache

abbrev pub request_to : Request → Party
request_to q = Directory

-- A command goes from the directory to its cache; a Set Tag with Data names its sender: the owner, or the directory where the
-- words are the memory's.
abbrev pub command_from : Command → Party
command_from (Invalidate cache block way) = Directory
command_from (SetStateWriteback cache block way) = Directory
command_from (Transfer cache block way requestor requestor_way owner_next requestor_next writeback) = Directory
command_from (SetTagData cache block way next words sender) = sender
command_from (SetStateWakeup cache block way) = Directory

abbrev pub command_to : Command → Party
command_to c = Cache (command_cache c)

-- a response goes from its cache to the directory
abbrev pub response_from : Response → Party
response_from r = Cache (response_cache r)

abbrev pub response_to : Response → Party
response_to r = Directory

-- a memory command goes from the directory to the memory
abbrev pub memory_command_from : MemoryCommand → Party
memory_command_from m = Directory

abbrev pub memory_command_to : MemoryCommand → Party
memory_command_to m = Memory
