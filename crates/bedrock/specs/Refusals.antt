-- Refusals: the number of each, and what it means.
use Rattle.std.specs.Prelude.{ℕ, cond, List, [], ◌∷◌, Ok, Err, codes, Result, nat_lt, slice_index_or}
use Rattle.bedrock.specs.declared.refusal.Refusal.{Refusal}
use Rattle.bedrock.specs.declared.refusal.Refusal.TheVariants.{NoSuchCache, NoSuchBlock, NoSuchWord, NoSuchChannel, SheetTooLong, BadHead, OutOfBounds, UnknownLetter, CutShort, NoSuchSetOrWay, CacheWaits, ChannelEmpty, SetBusy, NoRoom, LateContent, BufferTooShort}

abbrev pub number : Refusal → ℕ
number NoSuchCache = 1
number NoSuchBlock = 2
number NoSuchWord = 3
number NoSuchChannel = 4
number SheetTooLong = 5
number BadHead = 6
number OutOfBounds = 7
number UnknownLetter = 8
number CutShort = 9
number NoSuchSetOrWay = 10
number CacheWaits = 11
number ChannelEmpty = 12
number SetBusy = 13
number NoRoom = 14
number LateContent = 15
number BufferTooShort = 16

-- what each number means
abbrev pub meaning_of : ℕ → List ℕ
meaning_of n = slice_index_or
    (codes ""
    ∷ codes "no such cache"
    ∷ codes "no such block"
    ∷ codes "no such word"
    ∷ codes "no such channel"
    ∷ codes "sheet over 32768 bytes"
    ∷ codes "head short, or of another mark or version"
    ∷ codes "head code or length out of bounds"
    ∷ codes "unknown letter"
    ∷ codes "record cut short"
    ∷ codes "no such set or way"
    ∷ codes "cache waits"
    ∷ codes "channel empty"
    ∷ codes "set has answers pending"
    ∷ codes "no room on a channel"
    ∷ codes "content after another record"
    ∷ codes "buffer too short"
    ∷ []) n []

-- An answer by what it means: the value as f reads it, or the refusal's number.
abbrev pub outcome : {A B : Type 0} → (A → B) → Result A Refusal → Result B ℕ
outcome f (Ok x) = Ok (f x)
outcome f (Err e) = Err (number e)

-- A code below k stands; any other is refused with 7.
abbrev pub code_below : ℕ → ℕ → Result ℕ ℕ
code_below k n = cond (nat_lt n k) (Ok n) (Err 7)
