use Rattle.std.proofs.Common.{◌∙◌, sym, ap, refl, codes, option_map}
use Rattle.clap.specs.Words.{found_of}
use Rattle.cs_arguments.specs.{Orders.piece_in, Reading.asked_of}
use Rattle.cs_arguments.proofs.Values.{text_is}
use Rattle.cs_command.proofs.Getters.{all_given, flag_given, piece_given, pool_flag, silent_flag, turns_flag, wide_flag}
use Rattle.cs_command.proofs.given.order_of.Goals as goal

pub returns-in-Some : goal.returns-in-Some
returns-in-Some c = λ uses h.
    let m = c.args.matches.now in
    let piece = ap (option_map piece_in) (sym c.in-Some.is) ∙ c.source_of-source.ensures
    ∙ piece_given uses _ _ _ (c.notes_of.ensures uses h)
    (c.get_str.ensures ∙ text_is (codes "ORC") refl (found_of m) uses h.1)
    (c.get_str-2.ensures ∙ text_is (codes "SCO") refl (found_of m) uses h.1) in
    all_given uses c.workers_of.result c.sound_file_of.result.now c.get_flag.result c.get_flag-in-Some.result
    c.get_flag-in-Some-2.result c.get_flag-in-Some-3.result c.width.result (piece_in c.in-Some.source)
    (c.workers_of.ensures uses h) (c.sound_file_of.ensures uses h) c.width.ensures
    (flag_given (codes "3") wide_flag m uses h c.get_flag.result c.get_flag.ensures.value c.get_flag.ensures.other)
    (flag_given (codes "n") silent_flag m uses h c.get_flag-in-Some.result c.get_flag-in-Some.ensures.value
    c.get_flag-in-Some.ensures.other)
    (flag_given (codes "turns") turns_flag m uses h c.get_flag-in-Some-2.result c.get_flag-in-Some-2.ensures.value
    c.get_flag-in-Some-2.ensures.other)
    (flag_given (codes "pool") pool_flag m uses h c.get_flag-in-Some-3.result c.get_flag-in-Some-3.ensures.value
    c.get_flag-in-Some-3.ensures.other)
    piece

pub returns-in-None : goal.returns-in-None
returns-in-None c = λ uses h.
    let m = c.args.matches.now in
    let piece = ap (option_map piece_in) (sym c.in-None.is) ∙ c.source_of-source.ensures
    ∙ piece_given uses _ _ _ (c.notes_of.ensures uses h)
    (c.get_str.ensures ∙ text_is (codes "ORC") refl (found_of m) uses h.1)
    (c.get_str-2.ensures ∙ text_is (codes "SCO") refl (found_of m) uses h.1) in
    ap (option_map (asked_of uses)) piece
