use Rattle.std.proofs.Common.{◌≡◌, ℕ, List, ◌++◌}
use Rattle.rv_asm.specs.Registers.{register_of, argument_registers, high_registers, low_registers, saved_registers, special_registers, temporary_registers}
use Rattle.rv_asm.specs.Tables.{look_up}
use Rattle.rv_asm.proofs.TableLemmas.{one_table_more}
use Rattle.rv_asm.proofs.line.registers.register_of.Goals as goal

pub returns : goal.returns
unfolding register_of
returns c =
    let name = c.args.name.now in
    let front_2 : List (List ℕ × ℕ) = special_registers ++ temporary_registers in
    let found_2 : c.or.result ≡ look_up front_2 name = one_table_more special_registers temporary_registers name c.special_register.result c.temporary_register.result c.or.result c.special_register.ensures c.temporary_register.ensures c.or.ensures in
    let front_3 : List (List ℕ × ℕ) = front_2 ++ saved_registers in
    let found_3 : c.or-2.result ≡ look_up front_3 name = one_table_more front_2 saved_registers name c.or.result c.saved_register.result c.or-2.result found_2 c.saved_register.ensures c.or-2.ensures in
    let front_4 : List (List ℕ × ℕ) = front_3 ++ argument_registers in
    let found_4 : c.or-3.result ≡ look_up front_4 name = one_table_more front_3 argument_registers name c.or-2.result c.argument_register.result c.or-3.result found_3 c.argument_register.ensures c.or-3.ensures in
    let front_5 : List (List ℕ × ℕ) = front_4 ++ low_registers in
    let found_5 : c.or-4.result ≡ look_up front_5 name = one_table_more front_4 low_registers name c.or-3.result c.low_register.result c.or-4.result found_4 c.low_register.ensures c.or-4.ensures in
    let front_6 : List (List ℕ × ℕ) = front_5 ++ high_registers in
    let found_6 : c.or-5.result ≡ look_up front_6 name = one_table_more front_5 high_registers name c.or-4.result c.high_register.result c.or-5.result found_5 c.high_register.ensures c.or-5.ensures in
    found_6
