-- Drafts that grow: the code so far, and the code that the rest will add.
use Rattle.std.proofs.Common.{◌≡◌, ◌∙◌, ◌+◌, ◌++◌, List, [], length, refl, ap, subst, sym, IfOk, OnOk, Ok, Err, Result}
use Rattle.std.proofs.lemmas.List.{length-append}
use Rattle.cs_base.specs.declared.spaces.Spaces.{Spaces}
use Rattle.cs_ir.proofs.Drafting.{grew_none, grew_on}
use Rattle.cs_ir.specs.{Drafts.Draft, Drafts.Grew, Drafts.drafted, Drafts.library_of, declared.op.Op.Op}
use Rattle.cs_code.specs.{declared.frame.Pass.Pass, declared.frame.Progress.Progress, inner.Served.Lowered}
use Rattle.cs_code.specs.{inner.Served.Serve, inner.Code.pass_block_code, inner.Kept.past_block}
use Rattle.cs_meaning.specs.Core.{Block}
use Rattle.cs_typed.specs.TypedTree as typed

-- Growing by the rest from here means growing by the complete code from the start.
abbrev pub Leads : Draft → Draft → List Op → List Op → Type 0
Leads start here rest whole = (d : Draft) → Grew here d rest → Grew start d whole

pub leads_on : (start here next : Draft) (more rest behind whole : List Op) → Leads start here rest whole
    → Grew here next more → rest ≡ more ++ behind → Leads start next behind whole
leads_on start here next more rest behind whole was made split = λ d grew.
    was d (subst (Grew here d) (sym split) (grew_on here next d more behind made grew))

pub leads_end : (start here : Draft) (rest whole : List Op) → Leads start here rest whole → rest ≡ []
    → Grew start here whole
leads_end start here rest whole was none = was here (subst (Grew here here) (sym none) (grew_none here))

-- a fact that holds for any result; and a fact that follows from a call's clauses
pub on_any : {T E P : Type 0} (r : Result T E) → P → OnOk r P
on_any (Ok x) p = p
on_any (Err e) p = tt

pub on_then : {T E P Q : Type 0} (r : Result T E) → (P → Q) → OnOk r P → OnOk r Q
on_then (Ok x) f p = f p
on_then (Err e) f p = tt

-- the number of ops afterwards
pub grew_long : (a b : Draft) (more : List Op) → Grew a b more → length (drafted b) ≡ length (drafted a) + length more
grew_long a b more grew = ap length grew.ops ∙ length-append (drafted a) more

pub ok_then : {X Y : Type 0} {P Q : X → Type 0} (r : Result X Y) → IfOk r P → ((x : X) → P x → Q x) → IfOk r Q
ok_then (Ok x) h f = f x h
ok_then (Err e) h f = tt

-- the two clauses of a call, as one fact
pub lowered : {E : Type 0} (way : Pass) (old new : Draft) (p : Progress) (b : Block) (r : Result Progress E)
    → OnOk r (Grew old new (pass_block_code way (length (drafted old)) p b)) → IfOk r (λ q. q ≡ past_block p b)
    → IfOk r (λ q. Lowered way old new p q b)
lowered way old new p b (Ok q) grew past_it = record { ops = grew; next = past_it }
lowered way old new p b (Err e) grew past_it = tt

-- ---- one code after another

pub grew_as : (a b : Draft) (xs all : List Op) → Grew a b xs → xs ≡ all → Grew a b all
grew_as a b xs all one is = subst (Grew a b) is one

pub grew_two : (a b c : Draft) (xs ys all : List Op) → Grew a b xs → Grew b c ys → xs ++ ys ≡ all → Grew a c all
grew_two a b c xs ys all one two is = subst (Grew a c) is (grew_on a b c xs ys one two)

pub grew_three : (a b c d : Draft) (xs ys zs all : List Op) → Grew a b xs → Grew b c ys → Grew c d zs
    → xs ++ (ys ++ zs) ≡ all → Grew a d all
grew_three a b c d xs ys zs all one two three is =
    grew_two a b d xs (ys ++ zs) all one (grew_on b c d ys zs two three) is

-- if nothing is appended
pub grew_nothing : (a : Draft) (none : List Op) → none ≡ [] → Grew a a none
grew_nothing a none is = subst (Grew a a) (sym is) (grew_none a)

-- routines still serve a code if their lists are replaced by equal ones, or a draft grows
pub serve_as : (way : Pass) (spaces : Spaces) (rs : List typed.Block) (made made' : List (List Op))
    (extents extents' : List Progress) → made' ≡ made → extents' ≡ extents → Serve way spaces rs made extents
    → Serve way spaces rs made' extents'
serve_as way spaces rs made made' extents extents' e h serve =
    record { code = e ∙ serve.code; extents = h ∙ serve.extents }

pub serve_on : (way : Pass) (spaces : Spaces) (rs : List typed.Block) (extents : List Progress) (a b : Draft)
    → library_of b ≡ library_of a → Serve way spaces rs (library_of a) extents
    → Serve way spaces rs (library_of b) extents
serve_on way spaces rs extents a b same serve =
    serve_as way spaces rs (library_of a) (library_of b) extents extents same refl serve

pub ruleset growing = (grew_as, grew_two, grew_three, grew_nothing)
