-- Routines that are generated, and the code of a routine that is invoked.
use Rattle.std.proofs.Common.{◌≡◌, ◌∙◌, ◌≤◌, ◌++◌, ℕ, zero, suc, true, false, List, [], ◌∷◌, Some, length, map, get_or}
use Rattle.std.proofs.{Common.arith, Common.refl, Common.sym, Common.ap, Common.ap₂, Math.Dec.ltb}
use Rattle.std.proofs.lemmas.{Bool.ltb-true, Bool.ltb-false, List.map-append, Option.none-some, Option.slice_get-get_or}
use Rattle.std.specs.List.{slice_get}
use Rattle.cs_base.proofs.Tests.{some_is}
use Rattle.cs_base.specs.{declared.per_rate.PerRate.PerRate, declared.spaces.Spaces.Spaces}
use Rattle.cs_ir.proofs.Libraries.{library_more}
use Rattle.cs_ir.specs.{Flat.moved_ops, Flat.ops_at, Flat.window_of, Routines.library_in, Routines.ops_in}
use Rattle.cs_ir.specs.{declared.op.Op.Op, declared.routine.Routine.Routine, declared.step.Call.Call}
use Rattle.cs_meaning.specs.Core.{core}
use Rattle.cs_code.specs.{declared.frame.Pass.Pass, declared.frame.Progress.Progress, inner.Code.pass_block_code}
use Rattle.cs_code.specs.{inner.Kept.start, inner.Kept.past_block, inner.Served.Serve, inner.Served.further_on}
use Rattle.cs_code.specs.inner.Emitted.{invoked_in, scope_of}
use Rattle.cs_code.proofs.Moved.{routine_moved, routine_past}
use Rattle.cs_typed.specs.TypedTree as typed

-- ---- one routine more

pub serve_more : (way : Pass) (spaces : Spaces) (rs : List typed.Block) (b : typed.Block) (made : List Routine)
    (r : Routine) (extents : List Progress) (e : Progress) → Serve way spaces rs (library_in made) extents
    → ops_in (library_in made) r ≡ pass_block_code way 0 start (core spaces b) → e ≡ past_block start (core spaces b)
    → Serve way spaces (rs ++ b ∷ []) (library_in (made ++ r ∷ [])) (extents ++ e ∷ [])
serve_more way spaces rs b made r extents e serve ops extent = record {
  code = library_more made r ∙ ap₂ (λ xs x. xs ++ x ∷ []) serve.code ops
      ∙ sym (map-append (λ y. pass_block_code way 0 start (core spaces y)) rs (b ∷ []));
  extents = ap₂ (λ xs x. xs ++ x ∷ []) serve.extents extent
      ∙ sym (map-append (λ y. past_block start (core spaces y)) rs (b ∷ []));
}

-- ---- a routine by its number

code_at : (way : Pass) (spaces : Spaces) (rs : List typed.Block) (k : ℕ)
    → ops_at (map (λ b. pass_block_code way 0 start (core spaces b)) rs) k
    ≡ pass_block_code way 0 start (core spaces (typed.routine_at rs k))
code_at way spaces [] k = refl
code_at way spaces (b ∷ rs) zero = refl
code_at way spaces (b ∷ rs) (suc k) = code_at way spaces rs k

module _ (f : typed.Block → Progress) where
  extent_there : (rs : List typed.Block) (k : ℕ) (e : Progress) → slice_get (map f rs) k ≡ Some e
      → f (typed.routine_at rs k) ≡ e
  extent_there [] k e h = absurd (none-some e h)
  extent_there (b ∷ rs) zero e h = some_is (f b) e h
  extent_there (b ∷ rs) (suc k) e h = extent_there rs k e h

  extent_missing : (rs : List typed.Block) (k : ℕ) → length (map f rs) ≤ k → typed.routine_at rs k ≡ typed.no_stmt
  extent_missing [] k h = refl
  extent_missing (b ∷ rs) zero h = absurd (omega (arith, h))
  extent_missing (b ∷ rs) (suc k) h = extent_missing rs k (omega (arith, h))

module _ (way : Pass) (spaces : Spaces) (rs : List typed.Block) (made : List (List Op)) (extents : List Progress)
    (serve : Serve way spaces rs made extents) (k : ℕ) where
  -- the extent that is read at a number is the routine's
  pub extent_is : (e : Progress) → true ≡ ltb k (length extents) → e ≡ get_or extents k e
      → past_block start (core spaces (typed.routine_at rs k)) ≡ e
  extent_is e low is =
      extent_there (λ b. past_block start (core spaces b)) rs k e (sym (ap (λ l. slice_get l k) serve.extents)
      ∙ slice_get-get_or extents k e (ltb-true k (length extents) (sym low)) ∙ ap Some (sym is))

  pub none_there : false ≡ ltb k (length extents) → typed.routine_at rs k ≡ typed.no_stmt
  none_there high =
      extent_missing (λ b. past_block start (core spaces b)) rs k
      (let h = ltb-false k (length extents) (sym high) in omega (arith, h, ap length serve.extents))

  -- a call appends the code of its routine
  pub invoked_code : (place : ℕ) (p : Progress) (base : PerRate ℕ) (c : Call) → c.routine ≡ k → c.locals ≡ base
      → c.kept ≡ p.part → c.unit ≡ p.unit → moved_ops (window_of c) place (ops_at made c.routine)
      ≡ pass_block_code way place p (invoked_in (scope_of spaces rs) k base)
  invoked_code place p base c routine locals kept unit =
      ap (λ n. moved_ops (window_of c) place (ops_at made n)) routine
      ∙ ap (λ (l : PerRate ℕ). moved_ops (record { locals = l; kept = c.kept; unit = c.unit }) place (ops_at made k))
      locals
      ∙ ap (λ n. moved_ops (record { locals = base; kept = n; unit = c.unit }) place (ops_at made k)) kept
      ∙ ap (λ n. moved_ops (record { locals = base; kept = p.part; unit = n }) place (ops_at made k)) unit
      ∙ ap (moved_ops (record { locals = base; kept = p.part; unit = p.unit }) place)
      (ap (λ l. ops_at l k) serve.code ∙ code_at way spaces rs k)
      ∙ sym (routine_moved way spaces base place p (typed.routine_at rs k))

  pub invoked_past : (p e q : Progress) (base : PerRate ℕ) → true ≡ ltb k (length extents) → e ≡ get_or extents k e
      → q ≡ further_on p e → q ≡ past_block p (invoked_in (scope_of spaces rs) k base)
  invoked_past p e q base low is further =
      further ∙ sym (ap (further_on p) (extent_is e low is)) ∙ sym (routine_past spaces base p (typed.routine_at rs k))

  -- a call of a routine that doesn't exist appends nothing
  pub nothing_invoked : (place : ℕ) (p : Progress) (base : PerRate ℕ) → false ≡ ltb k (length extents)
      → pass_block_code way place p (invoked_in (scope_of spaces rs) k base) ≡ []
  nothing_invoked place p base high =
      ap (λ b. pass_block_code way place p (core spaces (typed.moved_block base b))) (none_there high)

  pub nothing_past : (p : Progress) (base : PerRate ℕ) → false ≡ ltb k (length extents)
      → past_block p (invoked_in (scope_of spaces rs) k base) ≡ p
  nothing_past p base high =
      ap (λ b. past_block p (core spaces (typed.moved_block base b))) (none_there high)
