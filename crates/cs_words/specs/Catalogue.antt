-- The catalogue: the name of each opcode, its arguments and results, and how it is performed.
use Rattle.std.specs.Prelude.{ℕ, Bool, true, false, not, List, [], ◌∷◌, ◌-◌, ◌%◌, ◌&&◌, ◌||◌, ◌==◌, codes, length}
use Rattle.std.specs.Prelude.{filter, nat_le, slice_get, Option, Some, None, if◌then◌else◌}
use Rattle.std.specs.{List.list_any, Str.bytes_eq, Option.unwrap_or}
use Rattle.cs_base.specs.{Rates.within, Rates.is_init, Rates.is_audio, declared.resource.Rate.Rate}
use Rattle.cs_words.specs.{declared.catalogue.Opcode.Opcode, declared.catalogue.Letter.Letter}
use Rattle.cs_words.specs.{declared.catalogue.More.More, declared.catalogue.Shape.Shape}
use Rattle.cs_base.specs.declared.resource.Rate.TheVariants as rate
use Rattle.cs_words.specs.declared.catalogue.Opcode.TheVariants as op
use Rattle.cs_words.specs.declared.catalogue.Letter.TheVariants as letter
use Rattle.cs_words.specs.declared.catalogue.More.TheVariants as more
use Rattle.cs_words.specs.declared.catalogue.Space.TheVariants as space
use Rattle.cs_words.specs.declared.catalogue.Shape.TheVariants as shape

-- the catalogue's row for an opcode: its name, the rates that its result may have (empty if it has no
-- result), the letters of the required arguments, the optional arguments, and how it is performed
pub record Row : Type 0 where
  pub name : List ℕ
  pub results : List Rate
  pub fixed : List Letter
  pub more : More
  pub shape : Shape

-- a row with these fields
abbrev pub row : List ℕ → List Rate → List Letter → More → Shape → Row
row name results fixed further how =
    record { name = name; results = results; fixed = fixed; more = further; shape = how }

-- the lists of result rates that the catalogue uses: none, or one of these rates
abbrev none : List Rate
none = []

abbrev r_k : List Rate
r_k = rate.Control ∷ []

abbrev r_a : List Rate
r_a = rate.Audio ∷ []

abbrev r_ka : List Rate
r_ka = rate.Control ∷ rate.Audio ∷ []

abbrev r_ika : List Rate
r_ika = rate.Init ∷ rate.Control ∷ rate.Audio ∷ []

-- the letters that the catalogue uses
abbrev i : Letter
i = letter.Init

abbrev f : Letter
f = letter.Table

abbrev k : Letter
k = letter.Control

abbrev p : Letter
p = letter.Place

abbrev a : Letter
a = letter.Audio

abbrev x : Letter
x = letter.Held

abbrev v : Letter
v = letter.Any

abbrev s : Letter
s = letter.Text

-- the catalogue
abbrev pub row_of : Opcode → Row
row_of op.Init = row (codes "init") r_ika (i ∷ []) more.Nothing shape.Init
row_of op.Oscil = row (codes "oscil") r_ka (x ∷ x ∷ f ∷ []) (more.Perhaps i) shape.Unit
row_of op.Oscili = row (codes "oscili") r_ka (x ∷ x ∷ f ∷ []) (more.Perhaps i) shape.Unit
row_of op.Phasor = row (codes "phasor") r_ka (x ∷ []) (more.Perhaps i) shape.Unit
row_of op.Line = row (codes "line") r_ka (i ∷ i ∷ i ∷ []) more.Nothing shape.Unit
row_of op.Linseg = row (codes "linseg") r_ka (i ∷ i ∷ i ∷ []) (more.Pairs i i) shape.Unit
row_of op.Linen = row (codes "linen") r_ka (x ∷ i ∷ i ∷ i ∷ []) more.Nothing shape.Unit
row_of op.Delay = row (codes "delay") r_a (a ∷ i ∷ []) more.Nothing shape.Unit
row_of op.Biquad = row (codes "biquad") r_a (a ∷ k ∷ k ∷ k ∷ k ∷ k ∷ k ∷ []) more.Nothing shape.Unit
row_of op.Table = row (codes "table") r_ika (x ∷ f ∷ []) more.Nothing shape.Unit
row_of op.Tablei = row (codes "tablei") r_ika (x ∷ f ∷ []) more.Nothing shape.Unit
row_of op.Tablew = row (codes "tablew") none (v ∷ v ∷ f ∷ []) more.Nothing shape.Store
row_of op.Integ = row (codes "integ") r_ka (x ∷ []) more.Nothing shape.Unit
row_of op.Diff = row (codes "diff") r_ka (x ∷ []) more.Nothing shape.Unit
row_of op.Samphold = row (codes "samphold") r_ka (x ∷ x ∷ []) more.Nothing shape.Unit
row_of op.Limit = row (codes "limit") r_ika (x ∷ k ∷ k ∷ []) more.Nothing shape.Unit
row_of op.Interp = row (codes "interp") r_a (k ∷ []) more.Nothing shape.Unit
row_of op.Downsamp = row (codes "downsamp") r_k (a ∷ []) more.Nothing shape.Unit
row_of op.Out = row (codes "out") none (a ∷ []) (more.Each a) shape.Out
row_of op.Outs = row (codes "outs") none (a ∷ a ∷ []) more.Nothing shape.Out
row_of op.Outch = row (codes "outch") none (k ∷ a ∷ []) (more.Pairs k a) shape.OutAt
row_of op.Turnoff = row (codes "turnoff") none [] more.Nothing shape.Turnoff
row_of op.Zakinit = row (codes "zakinit") none (i ∷ i ∷ []) more.Nothing shape.ZakInit
row_of op.Zkr = row (codes "zkr") r_k (p ∷ []) more.Nothing (shape.ZakGet space.Control)
row_of op.Zar = row (codes "zar") r_a (p ∷ []) more.Nothing (shape.ZakGet space.Audio)
row_of op.Zkw = row (codes "zkw") none (k ∷ p ∷ []) more.Nothing (shape.ZakPut space.Control)
row_of op.Zaw = row (codes "zaw") none (a ∷ p ∷ []) more.Nothing (shape.ZakPut space.Audio)
row_of op.Zawm = row (codes "zawm") none (a ∷ p ∷ []) more.Nothing shape.ZakMix
row_of op.Zkcl = row (codes "zkcl") none (p ∷ p ∷ []) more.Nothing (shape.ZakClear space.Control)
row_of op.Zacl = row (codes "zacl") none (p ∷ p ∷ []) more.Nothing (shape.ZakClear space.Audio)
row_of op.Chnget = row (codes "chnget") r_ika (s ∷ []) more.Nothing shape.ChannelGet
row_of op.Chnset = row (codes "chnset") none (v ∷ s ∷ []) more.Nothing shape.ChannelPut
row_of op.Chnmix = row (codes "chnmix") none (a ∷ s ∷ []) more.Nothing shape.ChannelMix
row_of op.Chnclear = row (codes "chnclear") none (s ∷ []) more.Nothing shape.ChannelClear
row_of op.Schedule = row (codes "schedule") none (i ∷ i ∷ i ∷ []) (more.Each i) shape.Ask
row_of op.EventI = row (codes "event_i") none (s ∷ i ∷ i ∷ i ∷ []) (more.Each i) shape.Ask

-- every opcode, once
abbrev pub opcodes : List Opcode
opcodes =
    op.Init ∷
    op.Oscil ∷
    op.Oscili ∷
    op.Phasor ∷
    op.Line ∷
    op.Linseg ∷
    op.Linen ∷
    op.Delay ∷
    op.Biquad ∷
    op.Table ∷
    op.Tablei ∷
    op.Tablew ∷
    op.Integ ∷
    op.Diff ∷
    op.Samphold ∷
    op.Limit ∷
    op.Interp ∷
    op.Downsamp ∷
    op.Out ∷
    op.Outs ∷
    op.Outch ∷
    op.Turnoff ∷
    op.Zakinit ∷
    op.Zkr ∷
    op.Zar ∷
    op.Zkw ∷
    op.Zaw ∷
    op.Zawm ∷
    op.Zkcl ∷
    op.Zacl ∷
    op.Chnget ∷
    op.Chnset ∷
    op.Chnmix ∷
    op.Chnclear ∷
    op.Schedule ∷
    op.EventI ∷
    []

-- the first of these opcodes that has the name
abbrev pub named : List ℕ → List Opcode → Option Opcode
named name [] = None
named name (id ∷ ids) = if bytes_eq name (row_of id).name then Some id else named name ids

-- the opcode of a name
unfoldable pub catalogued : List ℕ → Option Opcode
catalogued name = named name opcodes

-- the letter of the optional argument at index n, from 0
abbrev pub further : More → ℕ → Letter
further more.Nothing n = letter.Any
further (more.Perhaps l) n = l
further (more.Each l) n = l
further (more.Pairs l m) n = if n % 2 == 0 then l else m

-- the letter of the argument at index n, from 0
abbrev pub letter_at : Row → ℕ → Letter
letter_at r n = unwrap_or (slice_get r.fixed n) (further r.more (n - length r.fixed))

-- whether n arguments may follow the required ones
abbrev pub may_follow : More → ℕ → Bool
may_follow more.Nothing n = n == 0
may_follow (more.Perhaps l) n = nat_le n 1
may_follow (more.Each l) n = true
may_follow (more.Pairs l m) n = n % 2 == 0

-- whether an opcode accepts n arguments
abbrev pub takes_count : Row → ℕ → Bool
takes_count r n = nat_le (length r.fixed) n && may_follow r.more (n - length r.fixed)

-- the number of results of an opcode: one or none
abbrev pub result_count : Row → ℕ
result_count r = if length r.results == 0 then 0 else 1

-- Whether the letter accepts a value of rate r; `bound` is the rate of the result.
abbrev pub takes : Letter → Rate → Rate → Bool
takes letter.Init bound r = is_init r
takes letter.Table bound r = is_init r
takes letter.Control bound r = within r bound && not (is_audio r)
takes letter.Place bound r = within r bound && not (is_audio r)
takes letter.Audio bound r = is_audio r
takes letter.Held bound r = within r bound
takes letter.Any bound r = true
takes letter.Text bound r = false

-- whether the argument must be a quoted text
abbrev pub is_text : Letter → Bool
is_text letter.Text = true
is_text _ = false

-- settled: the argument is known when the note begins
abbrev pub is_settled : Letter → Bool
is_settled letter.Init = true
is_settled letter.Table = true
is_settled _ = false

-- moving: the argument may change while the note sounds
abbrev pub is_moving : Letter → Bool
is_moving l = not (is_settled l || is_text l)

-- whether the argument is a table number
abbrev pub is_table : Letter → Bool
is_table letter.Table = true
is_table _ = false

-- whether one of an opcode's required arguments is a table number
abbrev pub takes_table : Opcode → Bool
takes_table opcode = list_any is_table (row_of opcode).fixed

-- the letters of the required arguments that are settled
abbrev pub settled_letters : Row → List Letter
settled_letters r = filter is_settled r.fixed

-- the letters of the required arguments that may change while the note sounds
abbrev pub moving_letters : Row → List Letter
moving_letters r = filter is_moving r.fixed

-- whether all optional arguments are settled
abbrev pub follows_settled : More → Bool
follows_settled more.Nothing = true
follows_settled (more.Perhaps l) = is_settled l
follows_settled (more.Each l) = is_settled l
follows_settled (more.Pairs l m) = is_settled l && is_settled m

-- whether n settled arguments may follow the required ones; no row has a pair with one settled and one moving
-- argument
abbrev pub may_follow_settled : More → ℕ → Bool
may_follow_settled m n = if follows_settled m then may_follow m n else n == 0

-- whether an opcode accepts n settled arguments
abbrev pub unit_takes : Row → ℕ → Bool
unit_takes r n =
    nat_le (length (settled_letters r)) n && may_follow_settled r.more (n - length (settled_letters r))
