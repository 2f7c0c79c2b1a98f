-- Writing and reading are inverse to each other, over whole sheets.
use Rattle.std.proofs.Common.{◌≡◌, ◌^◌, ◌<◌, true, ltb, leb, ◌++◌, drop, ap, ◌∙◌, arith}
use Rattle.std.proofs.lemmas.Bool.{and_parts, leb-true}
use Rattle.bedrock.specs.Geometries.{bounded, within}
use Rattle.sheet.specs.declared.head.HeadCodes.{HeadCodes}
use Rattle.sheet.specs.Heads.{in_bounds, sizes_in, head_bytes}
use Rattle.writer.specs.RoundTrips.{ReadsBack, WritesBack, written}
use Rattle.writer.proofs.ReadBack.{records_back, head_back}
use Rattle.writer.proofs.WriteBack.{bytes_after, records_written, head_written}

-- a head within its bounds has few blocks
few_blocks : (h : HeadCodes) → in_bounds h ≡ true → h.blocks < 256 ^ 2
few_blocks h t =
    let sizes = (and_parts (ltb h.memory 2) (bounded (sizes_in h)) (and_parts (ltb h.channels 3) _ (and_parts (ltb h.protocol 8) _ t).1).1).1 in
    let blocks = (and_parts (within 1 h.ways 4) (within 1 h.blocks 1024) (and_parts (within 1 h.sets 16) _ (and_parts (within 1 h.caches 8) _ sizes).1).1).1 in
    omega (arith, leb-true h.blocks 1024 (and_parts (leb 1 h.blocks) (leb h.blocks 1024) blocks).1)

pub reads_back : ReadsBack
reads_back h xs w = record { head = head_back h (written xs) (few_blocks h w.bounds) w.bounds w.few; records = records_back xs w.fields w.lengths }

pub writes_back_holds : WritesBack
writes_back_holds bs h xs b r =
    ap (λ l. head_bytes h ++ l) (records_written xs (drop 13 bs) (bytes_after 13 bs b) r.records) ∙ head_written bs h b r.head
