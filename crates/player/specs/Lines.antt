-- The lines that playing a sheet prints: the number of a record, a space, and what it gave.
use Rattle.std.specs.Prelude.{ℕ, ◌+◌, Bool, cond, not, ◌&&◌, List, [], ◌∷◌, ◌++◌, length, drop, codes, decimal}
use Rattle.machine.specs.Outcomes.{Said, moved_on, loaded, stored, refused}
use Rattle.sheet.specs.Records.{Item, load, store, deliver, turn, content, note}
use Rattle.sheet.specs.Readings.{Reading, through, stopped}
use Rattle.player.specs.Contents.{fits}
use Rattle.player.specs.Calls.{is_call, call_count}

-- what a call answered, in words
abbrev pub say_text : Said → List ℕ
say_text moved_on = codes "ok"
say_text (loaded c v) = codes "load " ++ (decimal c ++ (codes " " ++ decimal v))
say_text (stored c v) = codes "store " ++ (decimal c ++ (codes " " ++ decimal v))
say_text (refused n) = codes "no " ++ decimal n

abbrev pub line : ℕ → List ℕ → List ℕ
line n text = ((decimal n ++ codes " ") ++ text) ++ (10 ∷ [])

-- the line of a record that is refused, or, with number 0, of a head
abbrev pub refusal_line : ℕ → ℕ → List ℕ
refusal_line n e = line n (say_text (refused e))

-- A content outside the blocks is refused with 2, and then one that comes after a call with 15. Early says that no call came before.
abbrev pub content_says : ℕ → Bool → ℕ → List ℕ → Said
content_says blocks early b bs = cond (fits blocks b bs) (cond early moved_on (refused 15)) (refused 2)

-- the text of a note, as it stands in the sheet
abbrev pub note_text : List ℕ → List ℕ
note_text t = codes "note " ++ t

-- a call has the next answer for its line
abbrev pub call_line : ℕ → List Said → List ℕ
call_line n [] = []
call_line n (s ∷ says) = line n (say_text s)

-- the line of record number n, where says are the answers of the calls from it on
abbrev pub record_line : ℕ → ℕ → Bool → List Said → Item → List ℕ
record_line blocks n early says (load c b w) = call_line n says
record_line blocks n early says (store c b w v) = call_line n says
record_line blocks n early says (deliver k p) = call_line n says
record_line blocks n early says (turn p) = call_line n says
record_line blocks n early says (content b bs) = line n (say_text (content_says blocks early b bs))
record_line blocks n early says (note t) = line n (note_text t)

-- The lines of records, the first having number n. Each call takes the next of the answers; there are as many as calls.
abbrev pub lines_from : ℕ → ℕ → Bool → List Item → List Said → List ℕ
lines_from blocks n early [] says = []
lines_from blocks n early (x ∷ xs) says =
    record_line blocks n early says x ++ lines_from blocks (n + 1) (early && not (is_call x)) xs (drop (call_count x) says)

-- the lines of a reading: a record that cannot be read has its line, and ends them
abbrev pub reading_lines : ℕ → ℕ → Bool → Reading → List Said → List ℕ
reading_lines blocks n early (through xs) says = lines_from blocks n early xs says
reading_lines blocks n early (stopped xs e) says = lines_from blocks n early xs says ++ refusal_line (n + length xs) e
