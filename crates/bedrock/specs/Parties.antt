-- Senders and receivers.
use Rattle.std.specs.Prelude.{Bool, true, false, ◌==◌}
use Rattle.bedrock.specs.declared.party.Party.{Party}
use Rattle.bedrock.specs.declared.party.Party.TheVariants.{Cache, Directory, Memory}

abbrev pub same_party : Party → Party → Bool
same_party (Cache a) (Cache b) = a == b
same_party (Cache a) Directory = false
same_party (Cache a) Memory = false
same_party Directory (Cache b) = false
same_party Directory Directory = true
same_party Directory Memory = false
same_party Memory (Cache b) = false
same_party Memory Directory = false
same_party Memory Memory = true
