use Rattle.std.proofs.Common.{◌≤◌, ◌∙◌, List, leb, length, true, false, rules, ap, subst, sym, ◌≡◌}
use Rattle.std.specs.List.Sorted.{IsNonDecreasingBy, IsPartitionPoint}
use Rattle.std.proofs.lemmas.List.Sorted.{IsPartitionPoint-from_clause, IsPartitionedBy-leb}
use Rattle.std.proofs.lemmas.List.Edits.{length-insert}
use Rattle.cs_life.proofs.{Growing.grew_longer, Growing.grew_none, Ordered.joined_at}
use Rattle.cs_voice.specs.VoiceData.{VoiceData}
use Rattle.cs_life.proofs.roster.join.Goals as goal

pub returns-then-cycles-eq0-clause-grown : goal.returns-then-cycles-eq0-clause-grown
returns-then-cycles-eq0-clause-grown c = grew_none c.args.voices.now.items

pub returns-clause-joined : goal.returns-clause-joined
returns-clause-joined c = λ any order.
    let n = λ (y : VoiceData). y.number in
    let all = c.deref.ensures.value in
    let sorted = subst (λ xs. IsNonDecreasingBy n xs) (sym all) order in
    let parted = IsPartitionedBy-leb n _ c.number-number.result sorted in
    let point = IsPartitionPoint-from_clause (λ (y : VoiceData). leb y.number c.number-number.result) _ _
    c.partition_point-place.ensures.partitioned parted (λ a r q k. search rules) in
    joined_at n _ c.args.voice _ c.partition_point-place.result c.number-number.result c.number-number.ensures
    (subst (λ (xs : List VoiceData). c.partition_point-place.result ≤ length xs) all
    c.partition_point-place.ensures.bound)
    (subst (λ (xs : List VoiceData). IsPartitionPoint (λ (y : VoiceData). leb y.number c.number-number.result ≡ true)
    (λ (y : VoiceData). leb y.number c.number-number.result ≡ false) xs c.partition_point-place.result) all point)
    c.in_ok-insert.ensures.items

pub returns-clause-grown : goal.returns-clause-grown
returns-clause-grown c =
    grew_longer c.args.voices.now.items _
    (ap length c.in_ok-insert.ensures.items
    ∙ length-insert c.args.voices.now.items c.partition_point-place.result c.args.voice
    (subst (λ (xs : List VoiceData). c.partition_point-place.result ≤ length xs) c.deref.ensures.value
    c.partition_point-place.ensures.bound))
