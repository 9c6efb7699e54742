use Rattle.std.proofs.Common.{◌∙◌, ap, length, ltb-true, refl, sym, Some}
use Rattle.std.proofs.lemmas.{Bool.ltb-false, Option.slice_get-map, Option.slice_get_past, Option.slice_get_read}
use Rattle.std.specs.Option.{option_map}
use Rattle.cs_ir.specs.Flat.{is_small, moved_reg}
use Rattle.cs_ir.proofs.Reading.{read_each}
use Rattle.cs_ir.proofs.window.Reads.get.Goals as goal

pub register-requires : goal.register-requires
register-requires c = let h = c.in-Some.ensures.lookup in
    read_each is_small (moved_reg c.args.self.now.window.now) c.args.self.now.registers.now c.args.place
    c.in-Some.register.now c.requires (ltb-true c.args.place (length c.args.self.now.registers.now) (sym h.0)) h.1

pub returns-in-Some : goal.returns-in-Some
returns-in-Some c =
    let move = moved_reg c.args.self.now.window.now in
    let qs = c.args.self.now.registers.now in
    let h = c.in-Some.ensures.lookup in
    let there = slice_get_read qs (length qs) c.args.place c.in-Some.register.now refl
    (ltb-true c.args.place (length qs) (sym h.0)) h.1 in
    ap Some c.register.ensures ∙ sym (slice_get-map move qs c.args.place ∙ ap (option_map move) there)

pub returns-in-None : goal.returns-in-None
returns-in-None c =
    let move = moved_reg c.args.self.now.window.now in
    let qs = c.args.self.now.registers.now in
    let far = ltb-false c.args.place (length qs) (sym c.in-None.ensures.lookup.0) in
    sym (slice_get-map move qs c.args.place ∙ ap (option_map move) (slice_get_past qs c.args.place far))
