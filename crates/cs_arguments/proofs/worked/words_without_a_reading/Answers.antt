use Rattle.std.proofs.Common.{◌≡◌, None, refl}
use Rattle.std.proofs.lemmas.List.Elements.{All-from_recursion}
use Rattle.cs_arguments.specs.{Reading.after, Reading.said, Reading.reading, Worked.wrong_names}
use Rattle.cs_arguments.specs.Worked.{empty_names, no_numbers, no_options, twice, unwanted_values, without_value}
use Rattle.cs_arguments.proofs.worked.words_without_a_reading.Goals as goal

pub returns-clause-numbers : goal.returns-clause-numbers
unfolding after said
returns-clause-numbers c =
    All-from_recursion (λ words. reading words ≡ None) no_numbers (refl, (refl, (refl, (refl, (refl, tt)))))

pub returns-clause-twice : goal.returns-clause-twice
unfolding after said
returns-clause-twice c = All-from_recursion (λ words. reading words ≡ None) twice (refl, (refl, tt))

pub returns-clause-values : goal.returns-clause-values
unfolding after said
returns-clause-values c = All-from_recursion (λ words. reading words ≡ None) without_value (refl, (refl, (refl, tt)))

pub returns-clause-empty : goal.returns-clause-empty
unfolding after said
returns-clause-empty c = All-from_recursion (λ words. reading words ≡ None) empty_names (refl, (refl, (refl, tt)))

pub returns-clause-names : goal.returns-clause-names
unfolding after said
returns-clause-names c =
    All-from_recursion (λ words. reading words ≡ None) wrong_names (refl, (refl, (refl, (refl, (refl, tt)))))

pub returns-clause-unwanted : goal.returns-clause-unwanted
unfolding after said
returns-clause-unwanted c = All-from_recursion (λ words. reading words ≡ None) unwanted_values (refl, (refl, tt))

pub returns-clause-options : goal.returns-clause-options
unfolding after said
returns-clause-options c =
    All-from_recursion (λ words. reading words ≡ None) no_options (refl, (refl, (refl, (refl, (refl, (refl, tt))))))
