use Rattle.std.proofs.Common.{◌≡◌, ◌∙◌, ap, arith, sym, subst, Err, IfNone, IfSome}
use Rattle.cs_base.specs.{declared.fault.Or.Or, declared.limit.LimitHit.LimitHit}
use Rattle.cs_cells.specs.Areas.{IsLaid, limit_passed}
use Rattle.cs_layout.specs.Layouts.{areas_of}
use Rattle.cs_typed.specs.TypedTree.{shared_names}
use Rattle.cs_layout.proofs.{Complete.is_laid, Made.count_is, Made.made_are, Made.words_is}
use Rattle.cs_layout.proofs.Limits.{hit_resources, hit_words, limit_told, none_passed, resources_passed, words_passed}
use Rattle.cs_base.specs.declared.fault.Or.TheVariants as or
use Rattle.cs_layout.proofs.areas.layout.Goals as goal

pub returns-then-count_of-clause-limit : goal.returns-then-count_of-clause-limit
returns-then-count_of-clause-limit c =
    let count = count_is c.args.ksmps (shared_names c.args.globals.now) c.args.spaces c.args.live.now
    c.groups_of-groups.result c.groups_of-groups.ensures c.count_of.result c.count_of.ensures in
    limit_told _ (limit_passed (areas_of c.args.ksmps (shared_names c.args.globals.now) c.args.spaces c.args.live.now))
    hit_resources (or.Fault c.at_no_line.result)
    (resources_passed (areas_of c.args.ksmps (shared_names c.args.globals.now) c.args.spaces c.args.live.now)
    (let many = c.if-count_of.true in omega (arith, count, many)))
    (ap (λ (h : LimitHit). or.Fault h) c.at_no_line.ensures)

pub returns-then-count_of-clause-memory : goal.returns-then-count_of-clause-memory
returns-then-count_of-clause-memory c =
    let count = count_is c.args.ksmps (shared_names c.args.globals.now) c.args.spaces c.args.live.now
    c.groups_of-groups.result c.groups_of-groups.ensures c.count_of.result c.count_of.ensures in
    subst (λ o. IfNone o (◌≡◌ {A = Or LimitHit} (or.Fault c.at_no_line.result) or.OutOfMemory))
    (sym (resources_passed (areas_of c.args.ksmps (shared_names c.args.globals.now) c.args.spaces c.args.live.now)
    (let many = c.if-count_of.true in omega (arith, count, many)))) tt

pub returns-then-words_of-clause-limit : goal.returns-then-words_of-clause-limit
returns-then-words_of-clause-limit c =
    let count = count_is c.args.ksmps (shared_names c.args.globals.now) c.args.spaces c.args.live.now
    c.groups_of-groups.result c.groups_of-groups.ensures c.count_of.result c.count_of.ensures in
    let words = words_is c.args.ksmps (shared_names c.args.globals.now) c.args.spaces c.args.live.now
    c.groups_of-groups.result c.groups_of-groups.ensures c.words_of.result c.words_of.ensures in
    limit_told _ (limit_passed (areas_of c.args.ksmps (shared_names c.args.globals.now) c.args.spaces c.args.live.now))
    hit_words (or.Fault c.at_no_line-then-words_of.result)
    (words_passed (areas_of c.args.ksmps (shared_names c.args.globals.now) c.args.spaces c.args.live.now)
    (let few = c.if-count_of.false in omega (arith, count, few))
    (let many = c.if-words_of.true in omega (arith, words, many)))
    (ap (λ (h : LimitHit). or.Fault h) c.at_no_line-then-words_of.ensures)

pub returns-then-words_of-clause-memory : goal.returns-then-words_of-clause-memory
returns-then-words_of-clause-memory c =
    let count = count_is c.args.ksmps (shared_names c.args.globals.now) c.args.spaces c.args.live.now
    c.groups_of-groups.result c.groups_of-groups.ensures c.count_of.result c.count_of.ensures in
    let words = words_is c.args.ksmps (shared_names c.args.globals.now) c.args.spaces c.args.live.now
    c.groups_of-groups.result c.groups_of-groups.ensures c.words_of.result c.words_of.ensures in
    subst (λ o. IfNone o (◌≡◌ {A = Or LimitHit} (or.Fault c.at_no_line-then-words_of.result) or.OutOfMemory))
    (sym (words_passed (areas_of c.args.ksmps (shared_names c.args.globals.now) c.args.spaces c.args.live.now)
    (let few = c.if-count_of.false in omega (arith, count, few))
    (let many = c.if-words_of.true in omega (arith, words, many)))) tt

pub returns-in_err-areas-clause-limit : goal.returns-in_err-areas-clause-limit
returns-in_err-areas-clause-limit c =
    let count = count_is c.args.ksmps (shared_names c.args.globals.now) c.args.spaces c.args.live.now
    c.groups_of-groups.result c.groups_of-groups.ensures c.count_of.result c.count_of.ensures in
    let words = words_is c.args.ksmps (shared_names c.args.globals.now) c.args.spaces c.args.live.now
    c.groups_of-groups.result c.groups_of-groups.ensures c.words_of.result c.words_of.ensures in
    subst (λ o. IfSome o (λ h. c.from_residual.result ≡ Err (or.Fault h)))
    (sym (none_passed (areas_of c.args.ksmps (shared_names c.args.globals.now) c.args.spaces c.args.live.now)
    (let few = c.if-count_of.false in omega (arith, count, few))
    (let short = c.if-words_of.false in omega (arith, words, short)))) tt

pub build-requires : goal.build-requires
build-requires c =
    subst IsLaid (sym (made_are c.args.ksmps (shared_names c.args.globals.now) c.args.spaces c.args.live.now
    c.groups_of-groups.result c.groups_of-groups.ensures c.deref.result.now
    (c.deref.ensures.value ∙ c.in_ok-areas.ensures)))
    (is_laid c.args.ksmps (shared_names c.args.globals.now) c.args.spaces c.args.live.now c.requires)
