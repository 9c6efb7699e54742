-- Calls of opcodes: the rules for arguments and results, and the typed form of a call.
use Rattle.std.specs.Prelude.{ℕ, Bool, true, not, List, [], ◌∷◌, ◌++◌, ◌&&◌, ◌||◌, ◌==◌, length, map, Option, Some}
use Rattle.std.specs.{Prelude.None, Prelude.if◌then◌else◌, List.list_any, List.list_all}
use Rattle.cs_base.specs.{Rates.is_audio, declared.fault.OrcKind.OrcKind, declared.resource.Rate.Rate}
use Rattle.cs_words.specs.Catalogue.{Row, row_of, takes_count, result_count}
use Rattle.cs_words.specs.{Names.name_rate, declared.catalogue.Letter.Letter, declared.catalogue.Shape.Shape}
use Rattle.cs_words.specs.declared.catalogue.Opcode.{Opcode}
use Rattle.cs_grammar.specs.{Tree.Argument, Tree.value, Tree.text, declared.tree.Callee.Callee}
use Rattle.cs_typed.specs.Calls.{sounds, stands_still, accepts, all_meet, bound_from, may_have, are_even, exceeds}
use Rattle.cs_typed.specs.Calls.{rate_without_result, rate_of_call}
use Rattle.cs_typed.specs.{Places.stands_outside, declared.setting.Setting.Setting}
use Rattle.cs_typing.specs.Expressions.{is_value, rate_of, reads_by, Variables, expression_by}
use Rattle.cs_typing.specs.Known.{KnownHere, Shared, known_with, knows, given_all, use_channel, clashes, channel_of}
use Rattle.cs_typing.specs.{Known.variable, declared.known.Channel.Channel}
use Rattle.cs_base.specs.declared.fault.OrcKind.TheVariants as orc
use Rattle.cs_base.specs.declared.resource.Rate.TheVariants as rate
use Rattle.cs_words.specs.declared.catalogue.Shape.TheVariants as shape
use Rattle.cs_grammar.specs.declared.tree.Callee.TheVariants as callee
use Rattle.cs_typed.specs.TypedTree as typed
use Rattle.cs_typing.specs.declared.known.Channel.TheVariants as channel

-- the rate of an argument; a text has none
abbrev pub rate_in : Argument → Option Rate
rate_in (value e) = Some (rate_of e)
rate_in (text name) = None

-- whether an argument is a value or a text, and not a condition
abbrev pub is_argument : Argument → Bool
is_argument (value e) = is_value e
is_argument (text name) = true

-- an argument fits its letter
abbrev pub fits : Letter → Rate → Argument → Bool
fits l bound a = is_argument a && accepts l bound (rate_in a)

-- each argument, from index n on, fits its letter
abbrev pub all_fit : Row → Rate → ℕ → List Argument → Bool
all_fit row bound n args = all_meet (λ l a. fits l bound a) row n args

-- the rate of the result, which limits the rates of the arguments
abbrev pub bound_of : List (List ℕ) → Rate
bound_of results = bound_from name_rate results

-- the result may have the rate in this name
abbrev pub may_result : Row → List ℕ → Bool
may_result row name = may_have row (name_rate name)

-- a value of the a-rate
abbrev pub is_sound : Argument → Bool
is_sound a = sounds (rate_in a)

-- whether any argument is a-rate
abbrev pub any_sound : List Argument → Bool
any_sound args = list_any is_sound args

-- whether the two arguments of a table store are both a-rate, or neither is
abbrev pub is_even : Shape → List Argument → Bool
is_even sh args = are_even rate_in sh args

-- the kind of a channel, by whether it is used at the a-rate
abbrev pub kind_of : Bool → Channel
kind_of sound = if sound then channel.Sound else channel.Control

-- the kind of channel that a call uses, if it uses one
abbrev pub channel_use : Shape → List (List ℕ) → List Argument → Option Channel
channel_use shape.ChannelGet results args = Some (kind_of (is_audio (bound_of results)))
channel_use shape.ChannelPut results args = Some (kind_of (any_sound args))
channel_use shape.ChannelMix results args = Some channel.Sound
channel_use shape.ChannelClear results args = Some channel.Sound
channel_use _ results args = None

-- the first text among the arguments
abbrev pub text_of : List Argument → List ℕ
text_of [] = []
text_of (value e ∷ rest) = text_of rest
text_of (text name ∷ rest) = name

-- whether more audio signals go out than the piece has channels
abbrev pub is_too_wide : Setting → Shape → List Argument → Bool
is_too_wide s sh args = exceeds s sh args

-- an argument reads only known variables
abbrev pub argument_read_by : (List ℕ → Bool) → Argument → Bool
argument_read_by is_known (value e) = reads_by is_known e
argument_read_by is_known (text name) = true

-- all arguments read only known variables
abbrev pub all_read_by : (List ℕ → Bool) → List Argument → Bool
all_read_by is_known args = list_all (argument_read_by is_known) args

-- an argument reads only variables that are known at this point
abbrev pub argument_known : KnownHere → Argument → Bool
argument_known n a = argument_read_by (knows n) a

-- all arguments read only variables that are known at this point
abbrev pub all_known : KnownHere → List Argument → Bool
all_known n args = all_read_by (knows n) args

-- arguments and results have the rates that the row allows, and the opcode is allowed in this context
abbrev pub rates_agree : Setting → Row → List (List ℕ) → List Argument → Bool
rates_agree s row results args =
    all_fit row (bound_of results) 0 args
    && list_all (may_result row) results
    && is_even row.shape args
    && (s.inside || stands_outside row.shape)

-- the numbers of results and arguments agree with the row
abbrev pub counts_agree : Row → List (List ℕ) → List Argument → Bool
counts_agree row results args = length results == result_count row && takes_count row (length args)

-- the first rule that a call of an opcode breaks, depending on the shared names and on which names are known
abbrev pub row_fault_by : Setting → Shared → (List ℕ → Bool) → Row → List (List ℕ) → List Argument → Option OrcKind
row_fault_by s g is_known row results args =
    if not (counts_agree row results args) then Some orc.ArgCount
    else (if not (all_read_by is_known args) then Some orc.Undefined
    else (if not (rates_agree s row results args) then Some orc.RateMismatch
    else (if clashes g (channel_use row.shape results args) (text_of args) then Some orc.ChannelRate
    else (if is_too_wide s row.shape args then Some orc.OutCount else None))))

-- the first rule that a call breaks: a called name that is left after the expansion is no opcode
abbrev pub call_fault_by : Setting → Shared → (List ℕ → Bool) → Callee → List (List ℕ) → List Argument → Option OrcKind
call_fault_by s g is_known (callee.Opcode o) results args = row_fault_by s g is_known (row_of o) results args
call_fault_by s g is_known (callee.Name name) results args = Some orc.UnknownOpcode

-- the first rule that a call of an opcode breaks at this point of the text
abbrev pub row_fault : Setting → KnownHere → Row → List (List ℕ) → List Argument → Option OrcKind
row_fault s n row results args = row_fault_by s n.shared (knows n) row results args

-- the first rule that a call breaks at this point of the text
abbrev pub call_fault : Setting → KnownHere → Callee → List (List ℕ) → List Argument → Option OrcKind
call_fault s n c results args = call_fault_by s n.shared (knows n) c results args

-- the shared names after a call
abbrev pub call_shared : Shared → Callee → List (List ℕ) → List Argument → Shared
call_shared g (callee.Opcode o) results args = use_channel g (channel_use (row_of o).shape results args) (text_of args)
call_shared g (callee.Name name) results args = g

-- the known names after a call of an opcode
abbrev pub row_known : KnownHere → Row → List (List ℕ) → List Argument → KnownHere
row_known n row results args =
    known_with (use_channel n.shared (channel_use row.shape results args) (text_of args)) (given_all n results).locals

-- the known names after a call
abbrev pub call_known : KnownHere → Callee → List (List ℕ) → List Argument → KnownHere
call_known n (callee.Opcode o) results args = row_known n (row_of o) results args
call_known n (callee.Name name) results args = given_all n results

-- a text, or a value that is known when the note begins
abbrev pub is_still : Argument → Bool
is_still a = stands_still (rate_in a)

-- the rate of a call without a result
abbrev pub plain_rate : Shape → List Argument → Rate
plain_rate sh args = rate_without_result rate_in sh args

-- the rate at which a call runs
abbrev pub call_rate : Shape → List (List ℕ) → List Argument → Rate
call_rate sh results args = rate_of_call name_rate rate_in sh results args

-- The typed form of an argument: a text becomes the channel that it names, and is left out if the call uses
-- no channel.
abbrev pub argument_by : Shared → Variables → Option Channel → Argument → List typed.Argument
argument_by g v role (value e) = typed.value (expression_by v e) ∷ []
argument_by g v None (text name) = []
argument_by g v (Some kind) (text name) = typed.text (channel_of g kind name) ∷ []

-- the typed forms of arguments
abbrev pub arguments_by : Shared → Variables → Option Channel → List Argument → List typed.Argument
arguments_by g v role [] = []
arguments_by g v role (a ∷ rest) = argument_by g v role a ++ arguments_by g v role rest

-- the typed form of a call of an opcode of the catalogue
abbrev pub row_by : ℕ → Shared → Variables → Opcode → Row → List (List ℕ) → List Argument → typed.Statement
row_by line g v opcode row results args =
    typed.call line (call_rate row.shape results args) (map v results) opcode
    (arguments_by g v (channel_use row.shape results args) args)

-- the typed form of any call; a called name that is no opcode is a fault, so its form has no meaning
abbrev pub call_by : ℕ → Shared → Variables → Callee → List (List ℕ) → List Argument → typed.Statement
call_by line g v (callee.Opcode o) results args = row_by line g v o (row_of o) results args
call_by line g v (callee.Name name) results args = typed.choose line rate.Init (typed.otherwise typed.no_stmt)

-- the typed form of arguments at this point of the text
abbrev pub typed_arguments : KnownHere → Option Channel → List Argument → List typed.Argument
typed_arguments n role args = arguments_by n.shared (variable n) role args

-- the typed form of a call of an opcode at this point of the text
abbrev pub typed_row : ℕ → KnownHere → Opcode → Row → List (List ℕ) → List Argument → typed.Statement
typed_row line n opcode row results args = row_by line n.shared (variable n) opcode row results args

-- the typed form of a call at this point of the text
abbrev pub typed_call : ℕ → KnownHere → Callee → List (List ℕ) → List Argument → typed.Statement
typed_call line n c results args = call_by line n.shared (variable n) c results args
