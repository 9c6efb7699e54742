use Rattle.std.proofs.Common.{◌∙◌, sym, ap, refl, codes, option_map}
use Rattle.std.specs.Option.{unwrap_or}
use Rattle.clap.specs.Words.{found_of}
use Rattle.cs_arguments.proofs.Values.{text_is}
use Rattle.cs_command.proofs.given.sound_file_of.Goals as goal

pub returns-in-Some : goal.returns-in-Some
returns-in-Some c = λ uses h.
    ap (λ o. unwrap_or o (codes "test.wav"))
    (ap (option_map (λ s. s.now)) (sym c.in-Some.is) ∙ c.get_str.ensures
    ∙ text_is (codes "o") refl (found_of c.args.matches.now) uses h.1)

pub returns-in-None : goal.returns-in-None
returns-in-None c = λ uses h.
    ap (λ o. unwrap_or o (codes "test.wav"))
    (ap (option_map (λ s. s.now)) (sym c.in-None.is) ∙ c.get_str.ensures
    ∙ text_is (codes "o") refl (found_of c.args.matches.now) uses h.1)
