use Rattle.std.proofs.Common.{◌≡◌, [], ◌∷◌, ◌++◌, decimal, append_assoc}
use Rattle.sheet.specs.Records.{item}
use Rattle.listing.specs.Lines.{opening, details, record_line}
use Rattle.listing.proofs.lines.record_line.Goals as goal

pub returns : goal.returns
returns c =
    let n = c.args.place in
    let x = item c.args.rec.now in
    let e : record_line n x ≡ decimal n ++ ((opening x ++ details x) ++ (10 ∷ [])) = simp append_assoc in
    rw e c.format.ensures.ok
