use Rattle.cs_words.proofs.Fields.{name_begins, field_numbers}
use Rattle.cs_words.proofs.laws.names_are_letters_of_rates.Goals as goal

pub returns-clause-name : goal.returns-clause-name
returns-clause-name c = name_begins

pub returns-clause-field : goal.returns-clause-field
returns-clause-field c = field_numbers
