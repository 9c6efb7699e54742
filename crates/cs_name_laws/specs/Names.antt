-- The shared resources that a typed tree names, and the shared resources that a piece has.
use Rattle.std.specs.Prelude.{Bool, true, false, ◌≡◌, ◌==◌, length, nat_lt}
use Rattle.std.specs.List.{All, list_any}
use Rattle.cs_base.specs.declared.resource.Res.{Res}
use Rattle.cs_ir.specs.Resources.{Stock}
use Rattle.cs_typed.specs.{TypedTree.SharedNames, Variables.EachInBlock, declared.tree.Var.Var as Variable}
use Rattle.cs_typed.specs.declared.tree.Var.TheVariants.{Local, Global}
use Rattle.cs_base.specs.declared.resource.Res.TheVariants as res
use Rattle.cs_typed.specs.TypedTree as typed

-- whether a resource is a named global variable or channel; zak places and tables have no names
abbrev pub is_named : SharedNames → Res → Bool
is_named names (res.Gi n) = nat_lt n (length names.variables.init)
is_named names (res.Gk n) = nat_lt n (length names.variables.control)
is_named names (res.Ga n) = nat_lt n (length names.variables.audio)
is_named names (res.Control n) = nat_lt n (length names.control)
is_named names (res.Sound n) = nat_lt n (length names.sound)
is_named names (res.ZakK n) = false
is_named names (res.ZakA n) = false
is_named names (res.Table n) = false

-- Whether a piece has a resource: a global variable or channel with a name, a zak place of its two spaces, or
-- a live table.
abbrev pub is_there : SharedNames → Stock → Res → Bool
is_there names stock (res.ZakK n) = nat_lt n stock.spaces.control
is_there names stock (res.ZakA n) = nat_lt n stock.spaces.audio
is_there names stock (res.Table n) = list_any (λ m. m == n) stock.live
is_there names stock g = is_named names g

-- a variable is a local variable, or a named shared one
abbrev pub IsNamed : SharedNames → Variable → Type 0
IsNamed names (Local r n) = Unit {0}
IsNamed names (Global g) = is_named names g ≡ true

-- all variables and channels that statements read and assign are named
abbrev pub IsNamedBlock : SharedNames → typed.Block → Type 0
IsNamedBlock names b = EachInBlock (IsNamed names) b

-- An orchestra names only shared resources from its lists, both outside instruments and in each instrument.
pub record NamesWhatThereIs (o : typed.Orchestra) : Type 0 where
  pub zero : IsNamedBlock o.globals o.zero
  pub instruments : All (λ i. IsNamedBlock o.globals i.body) o.instrs
