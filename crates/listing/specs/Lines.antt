-- The lines that say in words what a sheet has.
use Rattle.std.specs.Prelude.{ℕ, zero, suc, ◌+◌, ◌*◌, ◌/◌, ◌%◌, Bool, cond, not, ◌&&◌, List, [], ◌∷◌, ◌++◌, length, codes, decimal, ◌==◌, nat_le, nat_lt}
use Rattle.bedrock.specs.Geometries.{Sizes}
use Rattle.protocols.specs.ProtocolKinds.{name_of}
use Rattle.bedrock.specs.Refusals.{meaning_of}
use Rattle.sheet.specs.declared.head.HeadCodes.{HeadCodes}
use Rattle.sheet.specs.Bytes.{field}
use Rattle.sheet.specs.Heads.{sizes_in}
use Rattle.sheet.specs.Kinds.{channel_name, memory_name}
use Rattle.sheet.specs.Records.{Item, load, store, deliver, turn, content, note}

-- printable ASCII, but for the backslash, which begins an escape
abbrev pub plain : ℕ → Bool
plain b = nat_le 32 b && (nat_le b 126 && not (b == 92))

abbrev pub hex_digit : ℕ → ℕ
hex_digit d = cond (nat_lt d 10) (48 + d) (87 + d)

-- a byte as it is shown: itself, or \xNN
abbrev pub escaped : ℕ → List ℕ
escaped b = cond (plain b) (b ∷ []) (92 ∷ 120 ∷ hex_digit (b / 16) ∷ hex_digit (b % 16) ∷ [])

abbrev pub shown : List ℕ → List ℕ
shown [] = []
shown (b ∷ bs) = escaped b ++ shown bs

-- the first n words in bytes, each after a space
abbrev pub first_words : ℕ → List ℕ → List ℕ
first_words zero bs = []
first_words (suc n) bs = first_words n bs ++ (codes " " ++ decimal (field (8 * n) 8 bs))

-- what follows the number of a record
abbrev pub opening : Item → List ℕ
opening (load c b w) = codes " load cache " ++ (decimal c ++ (codes " block " ++ (decimal b ++ (codes " word " ++ decimal w))))
opening (store c b w v) = codes " store cache " ++ (decimal c ++ (codes " block " ++ (decimal b ++ (codes " word " ++ (decimal w ++ (codes " value " ++ decimal v))))))
opening (deliver k p) = codes " deliver channel " ++ (decimal k ++ (codes " pick " ++ decimal p))
opening (turn p) = codes " memory turn pick " ++ decimal p
opening (content b bs) = codes " content block " ++ (decimal b ++ (codes " count " ++ (decimal (length bs / 16) ++ codes " words")))
opening (note t) = codes " note "

-- what follows that: the words of a content, the text of a note
abbrev pub details : Item → List ℕ
details (load c b w) = []
details (store c b w v) = []
details (deliver k p) = []
details (turn p) = []
details (content b bs) = first_words (length bs / 8) bs
details (note t) = shown t

-- the line of record number n
abbrev pub record_line : ℕ → Item → List ℕ
record_line n x = ((decimal n ++ opening x) ++ details x) ++ (10 ∷ [])

-- the line of a head: its kinds, then its sizes
abbrev pub kinds_text : ℕ → ℕ → ℕ → List ℕ
kinds_text p c m = codes "protocol " ++ (name_of p ++ (codes " channels " ++ (channel_name c ++ (codes " memory " ++ memory_name m))))

abbrev pub sizes_text : Sizes → List ℕ
sizes_text g = codes " caches " ++ (decimal g.caches ++ (codes " sets " ++ (decimal g.sets ++ (codes " ways " ++ (decimal g.ways ++ (codes " blocks " ++ (decimal g.blocks ++ codes "\n")))))))

abbrev pub head_line : HeadCodes → List ℕ
head_line h = kinds_text h.protocol h.channels h.memory ++ sizes_text (sizes_in h)

-- the line of a record that is refused, or, with number 0, of a head
abbrev pub refusal_line : ℕ → ℕ → List ℕ
refusal_line n e = decimal n ++ (codes " no " ++ (decimal e ++ (codes " " ++ (meaning_of e ++ codes "\n"))))
