-- Worked examples: small sheets, from their bytes to what playing them prints.
use Rattle.std.specs.Prelude.{◌≡◌, ℕ, List, [], ◌∷◌, ◌++◌, length, replicate, Ok, Err, codes}
use Rattle.bedrock.specs.Geometries.{Sizes, judged_sizes, set_of}
use Rattle.machine.specs.Questions.{count_asked}
use Rattle.sheet.specs.Format.{letter_l, letter_s, letter_d, letter_m, letter_c, letter_n}
use Rattle.player.specs.Plays.{playing_of, machine_after}

-- a head: protocol, caches and the two bytes of blocks; unordered channels, a table of words, one set, one way
abbrev pub head_with : ℕ → ℕ → ℕ → ℕ → List ℕ
head_with p c low high = 77 ∷ 79 ∷ 83 ∷ 1 ∷ 0 ∷ p ∷ 0 ∷ 0 ∷ c ∷ 1 ∷ 1 ∷ low ∷ high ∷ []

-- records with small numbers; a delivery and a memory turn have pick 0
abbrev pub loads : ℕ → ℕ → ℕ → List ℕ
loads c b w = letter_l ∷ c ∷ b ∷ 0 ∷ w ∷ []

abbrev pub stores : ℕ → ℕ → ℕ → ℕ → List ℕ
stores c b w v = letter_s ∷ c ∷ b ∷ 0 ∷ w ∷ v ∷ 0 ∷ 0 ∷ 0 ∷ 0 ∷ 0 ∷ 0 ∷ 0 ∷ []

abbrev pub delivers : ℕ → List ℕ
delivers k = letter_d ∷ k ∷ 0 ∷ []

abbrev pub memory_turn : List ℕ
memory_turn = letter_m ∷ 0 ∷ []

abbrev pub contents : ℕ → ℕ → List ℕ → List ℕ
contents b n bs = letter_c ∷ b ∷ 0 ∷ n ∷ bs

abbrev pub notes : List ℕ → List ℕ
notes t = letter_n ∷ length t ∷ t

-- ---- a store by cache 0, then a load of the same word by cache 1

abbrev pub to_acceptance : List ℕ
to_acceptance = stores 0 0 0 7 ++ (delivers 0 ++ (memory_turn ++ (delivers 1 ++ (loads 1 0 0 ++ (delivers 0 ++ (delivers 2 ++ delivers 0))))))

abbrev pub from_acceptance : List ℕ
from_acceptance = delivers 1 ++ (delivers 1 ++ (delivers 2 ++ delivers 2))

-- under the protocol with a code: two caches, four blocks
abbrev pub store_then_load : ℕ → List ℕ
store_then_load p = head_with p 2 4 0 ++ (to_acceptance ++ from_acceptance)

-- all bytes of the sheet under MOESIF
abbrev pub sixty_bytes : List ℕ
sixty_bytes =
    77 ∷ 79 ∷ 83 ∷ 1 ∷ 0 ∷ 7 ∷ 0 ∷ 0 ∷ 2 ∷ 1 ∷ 1 ∷ 4 ∷ 0
    ∷ 83 ∷ 0 ∷ 0 ∷ 0 ∷ 0 ∷ 7 ∷ 0 ∷ 0 ∷ 0 ∷ 0 ∷ 0 ∷ 0 ∷ 0
    ∷ 68 ∷ 0 ∷ 0 ∷ 77 ∷ 0 ∷ 68 ∷ 1 ∷ 0 ∷ 76 ∷ 1 ∷ 0 ∷ 0 ∷ 0
    ∷ 68 ∷ 0 ∷ 0 ∷ 68 ∷ 2 ∷ 0 ∷ 68 ∷ 0 ∷ 0 ∷ 68 ∷ 1 ∷ 0
    ∷ 68 ∷ 1 ∷ 0 ∷ 68 ∷ 2 ∷ 0 ∷ 68 ∷ 2 ∷ 0 ∷ []

-- ---- one cache of one way under MSI, four blocks

abbrev pub alone : List ℕ → List ℕ
alone rest = head_with 1 1 4 0 ++ rest

-- what carries an order on block 0 of a cache to its end
abbrev pub to_the_end : List ℕ
to_the_end = delivers 0 ++ (memory_turn ++ (delivers 1 ++ delivers 2))

-- the block is shared, and then to be stored to
abbrev pub upgrade : List ℕ
upgrade = alone (loads 0 0 0 ++ (to_the_end ++ (stores 0 0 0 1 ++ delivers 0)))

-- the block was stored to, and then another one is to be loaded into its way
abbrev pub victim : List ℕ
victim = alone (stores 0 0 0 9 ++ (to_the_end ++ (loads 0 1 0 ++ delivers 0)))

-- ---- contents and notes

-- block 3 has the words 5 and 6: it is there, but block 4 is not
abbrev pub five_six : List ℕ
five_six = (5 ∷ replicate 7 0) ++ (6 ∷ replicate 7 0)

-- a content's last block has to exist, and its first also where it has none; once a call came, even a refused one, it is too late
abbrev pub contents_and_notes : List ℕ
contents_and_notes = notes (codes "two words") ++ (contents 4 0 [] ++ (contents 3 1 five_six ++ (contents 3 2 (five_six ++ five_six)
    ++ (memory_turn ++ (contents 3 1 five_six ++ (contents 4 0 [] ++ (notes [] ++ (loads 0 3 1 ++ (to_the_end ++ (88 ∷ []))))))))))

-- ---- geometries

abbrev pub largest : Sizes
largest = record { caches = 8; sets = 16; ways = 4; blocks = 1024 }

pub record Examples : Type 0 where
  -- under MOESIF nothing is written back, and the last delivery finds no response
  pub spelled : store_then_load 7 ≡ sixty_bytes
  pub sixty : length sixty_bytes ≡ 60
  pub under_moesif : playing_of sixty_bytes
      ≡ codes "1 ok\n2 ok\n3 ok\n4 store 0 7\n5 ok\n6 no 13\n7 ok\n8 ok\n9 ok\n10 load 1 7\n11 ok\n12 no 12\n"
  -- under MESI the owner writes back: the count is 2 once the load is accepted, and 0 after one memory turn more
  pub under_mesi : playing_of (store_then_load 2)
      ≡ codes "1 ok\n2 ok\n3 ok\n4 store 0 7\n5 ok\n6 no 13\n7 ok\n8 ok\n9 ok\n10 load 1 7\n11 ok\n12 ok\n"
  pub accepted : count_asked (machine_after (head_with 2 2 4 0 ++ to_acceptance)) 0 ≡ Ok 2
  pub written_back : count_asked (machine_after (store_then_load 2 ++ memory_turn)) 0 ≡ Ok 0
  -- bounds, and where a block belongs
  pub bounds : judged_sizes 8 16 4 1024 ≡ Ok largest
  pub nine_caches : judged_sizes 9 16 4 1024 ≡ Err 7
  pub many_blocks : judged_sizes 8 16 4 1025 ≡ Err 7
  pub last_block : set_of largest 1023 ≡ 15
  -- heads
  pub head_of_nine_caches : playing_of (head_with 7 9 4 0) ≡ codes "0 no 7\n"
  pub head_of_many_blocks : playing_of (head_with 7 8 1 4) ≡ codes "0 no 7\n"
  pub head_of_most_blocks : playing_of (head_with 7 8 0 4) ≡ []
  pub version_two : playing_of (77 ∷ 79 ∷ 83 ∷ 2 ∷ 0 ∷ 7 ∷ 0 ∷ 0 ∷ 2 ∷ 1 ∷ 1 ∷ 4 ∷ 0 ∷ []) ≡ codes "0 no 6\n"
  pub word_two : playing_of (head_with 7 2 4 0 ++ loads 0 0 2) ≡ codes "1 no 3\n"
  -- an upgrade awaits the Coherence Ack; a victim in M the Writeback too; then the Coherence Ack, the memory write and the memory read
  pub upgrade_accepted : count_asked (machine_after upgrade) 0 ≡ Ok 1
  pub victim_accepted : count_asked (machine_after victim) 0 ≡ Ok 2
  pub victim_written_back : count_asked (machine_after (victim ++ (delivers 1 ++ delivers 2))) 0 ≡ Ok 3
  pub before : playing_of (head_with 7 2 4 0 ++ contents_and_notes)
      ≡ codes "1 note two words\n2 no 2\n3 ok\n4 no 2\n5 no 12\n6 no 15\n7 no 2\n8 note \n9 ok\n10 ok\n11 ok\n12 load 0 6\n13 ok\n14 no 8\n"
