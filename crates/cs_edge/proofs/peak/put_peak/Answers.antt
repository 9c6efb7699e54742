use Rattle.std.proofs.Common.{List, ℕ, codes, [], ◌++◌, ◌/◌, ◌%◌, ◌*◌, decimal}
use Rattle.cs_edge.specs.Taps.{peak_line, five_digits}
use Rattle.cs_edge.proofs.Lines.{shows_as, shows_none, whole_line}
use Rattle.cs_edge.proofs.peak.put_peak.Goals as goal

pub returns : goal.returns
unfolding peak_line
returns c =
    let m = c.args.peak in
    let head : List ℕ = codes "peak " in
    let whole : List ℕ = head ++ decimal (m / 65536) in
    let point : List ℕ = whole ++ codes "." in
    let five : List ℕ = point ++ five_digits (m % 65536 * 100000 / 65536) in
    shows_as _ _ (five ++ codes "\n") _
    (whole_line (codes "peak ") (decimal (m / 65536)) (codes ".") (five_digits (m % 65536 * 100000 / 65536))
    (codes "\n")) (c.add_piece.ensures five (c.add_five_digits-used.ensures point (c.add_piece-used-2.ensures whole
    (c.add_number-used.ensures head (c.add_piece-used.ensures [] (shows_none c.args.out.now))))))
