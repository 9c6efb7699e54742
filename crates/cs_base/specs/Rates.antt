-- The order of the rates, and when two resources are the same.
use Rattle.std.specs.Prelude.{ℕ, Bool, true, false, ◌&&◌, ◌==◌, nat_le, if◌then◌else◌}
use Rattle.cs_base.specs.{declared.resource.Rate.Rate, declared.per_rate.PerRate.PerRate, declared.resource.Res.Res}
use Rattle.cs_base.specs.declared.resource.Rate.TheVariants as rate
use Rattle.cs_base.specs.declared.resource.Res.TheVariants as res

-- the rates in order: once per note, once per control cycle, once per frame
abbrev pub how_often : Rate → ℕ
how_often rate.Init = 0
how_often rate.Control = 1
how_often rate.Audio = 2

-- whether a rate is the i-rate
abbrev pub is_init : Rate → Bool
is_init rate.Init = true
is_init _ = false

-- whether a rate is the k-rate
abbrev pub is_control : Rate → Bool
is_control rate.Control = true
is_control _ = false

-- whether a rate is the a-rate
abbrev pub is_audio : Rate → Bool
is_audio rate.Audio = true
is_audio _ = false

-- whether two rates are the same
abbrev pub same_rate : Rate → Rate → Bool
same_rate r s = how_often r == how_often s

-- whether a value of rate r changes no more often than a value of rate s
abbrev pub within : Rate → Rate → Bool
within r s = nat_le (how_often r) (how_often s)

-- the rate of the two that changes more often
abbrev pub faster : Rate → Rate → Rate
faster r s = if within r s then s else r

-- the value for a rate
abbrev pub at_rate : {T : Type 0} → PerRate T → Rate → T
at_rate values rate.Init = values.init
at_rate values rate.Control = values.control
at_rate values rate.Audio = values.audio

-- the kind of a resource, as a number from 0 to 7
abbrev pub res_kind : Res → ℕ
res_kind (res.Gi n) = 0
res_kind (res.Gk n) = 1
res_kind (res.Ga n) = 2
res_kind (res.ZakK n) = 3
res_kind (res.ZakA n) = 4
res_kind (res.Control n) = 5
res_kind (res.Sound n) = 6
res_kind (res.Table n) = 7

-- the number of a resource among the resources of its kind
abbrev pub res_number : Res → ℕ
res_number (res.Gi n) = n
res_number (res.Gk n) = n
res_number (res.Ga n) = n
res_number (res.ZakK n) = n
res_number (res.ZakA n) = n
res_number (res.Control n) = n
res_number (res.Sound n) = n
res_number (res.Table n) = n

-- how often a resource changes: a variable at the rate of its name, a table at any frame
abbrev pub res_rate : Res → Rate
res_rate (res.Gi n) = rate.Init
res_rate (res.Gk n) = rate.Control
res_rate (res.Ga n) = rate.Audio
res_rate (res.ZakK n) = rate.Control
res_rate (res.ZakA n) = rate.Audio
res_rate (res.Control n) = rate.Control
res_rate (res.Sound n) = rate.Audio
res_rate (res.Table n) = rate.Audio

-- whether two resources are the same: of one kind, with one number
abbrev pub same_res : Res → Res → Bool
same_res r s = res_kind r == res_kind s && res_number r == res_number s
