-- `ch32_i2c::critical::in_section` meets its contract.
use Rattle.std.proofs.Common.{◌≡◌, sym, ap, ◌∙◌}
use Rattle.std.specs.Prelude.{is_some}
use Rattle.stage_numbers.specs.MasterGroup.{group_number, group_of}
use Rattle.stage_numbers.proofs.NumberedLaws.{told, number_told}
use Rattle.ch32_i2c.proofs.CriticalLaws.{in_address, in_read, in_stop, half_found}
use Rattle.ch32_i2c.proofs.critical.in_section.Goals as goal

pub returns-in-Some-Address : goal.returns-in-Some-Address
returns-in-Some-Address c =
    let group : c.args.group ≡ 4 = sym (number_told (told group_number group_of c.args.group c.in-Some-Address.ensures)) ∙ ap group_number c.in-Some-Address.field-0-is in
    rw (group, c.in_address_section.ensures) (in_address c.args.what c.args.phase)

pub returns-in-Some-ReadIter : goal.returns-in-Some-ReadIter
returns-in-Some-ReadIter c =
    let group : c.args.group ≡ 7 = sym (number_told (told group_number group_of c.args.group c.in-Some-ReadIter.ensures)) ∙ ap group_number c.in-Some-ReadIter.field-0-is in
    rw (group, c.in_read_section.ensures) (in_read c.args.what c.args.phase)

pub returns-in-Some-GenerateStop : goal.returns-in-Some-GenerateStop
returns-in-Some-GenerateStop c =
    let group : c.args.group ≡ 8 = sym (number_told (told group_number group_of c.args.group c.in-Some-GenerateStop.ensures)) ∙ ap group_number c.in-Some-GenerateStop.field-0-is in
    let half = c.is_some.ensures ∙ ap is_some c.of-in-Some-GenerateStop.ensures ∙ half_found c.args.phase in
    rw (group, c.in_stop_section.ensures, half) (in_stop c.args.what c.args.phase)
