use Rattle.std.proofs.Common.{◌≡◌, ℕ, List, ◌++◌, IfOk, codes, decimal, string_bytes, append_assoc, subst}
use Rattle.protocols.specs.ProtocolKinds.{name_of}
use Rattle.sheet.specs.declared.head.HeadCodes.{HeadCodes}
use Rattle.sheet.specs.Heads.{head_codes}
use Rattle.sheet.specs.Kinds.{channel_name, memory_name}
use Rattle.listing.specs.Lines.{head_line}
use Rattle.listing.proofs.lines.head_line.Goals as goal

-- a format joins its first twelve pieces, and then the rest; the sizes are those of the head's codes
pub returns : goal.returns
returns c =
    let h = head_codes c.args.head.now in
    let line : HeadCodes → List ℕ = λ k. (codes "protocol " ++ (name_of h.protocol ++ (codes " channels " ++ (channel_name h.channels ++ (codes " memory " ++ (memory_name h.memory
    ++ (codes " caches " ++ (decimal k.caches ++ (codes " sets " ++ (decimal k.sets ++ (codes " ways " ++ decimal k.ways))))))))))) ++ (codes " blocks " ++ (decimal k.blocks ++ codes "\n")) in
    let e : head_line h ≡ line h = simp append_assoc in
    rw e (subst (λ (k : HeadCodes). IfOk c.format.result (λ s. string_bytes s ≡ line k)) c.from-caches.ensures c.format.ensures.ok)
