use Rattle.cs_words.proofs.EachOpcode.{opcode_found}
use Rattle.cs_words.proofs.Apart.{opcode_read, one_name, found_so, words_read, foreign_read, signs_read}
use Rattle.cs_words.proofs.laws.words_are_apart.Goals as goal

pub returns-clause-opcodes : goal.returns-clause-opcodes
returns-clause-opcodes c = opcode_read

pub returns-clause-catalogue : goal.returns-clause-catalogue
returns-clause-catalogue c = opcode_found

pub returns-clause-names : goal.returns-clause-names
returns-clause-names c = one_name

pub returns-clause-found : goal.returns-clause-found
returns-clause-found c = found_so

pub returns-clause-words : goal.returns-clause-words
returns-clause-words c = words_read

pub returns-clause-foreign : goal.returns-clause-foreign
returns-clause-foreign c = foreign_read

pub returns-clause-signs : goal.returns-clause-signs
returns-clause-signs c = signs_read
