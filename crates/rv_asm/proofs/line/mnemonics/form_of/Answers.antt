use Rattle.std.proofs.Common.{◌≡◌, ℕ, List, ◌++◌}
use Rattle.rv_asm.specs.declared.line.mnemonics.Form.{Form}
use Rattle.rv_asm.specs.Mnemonics.{form_of, align_directives, branch_mnemonics, copy_mnemonics, file_directives, imm_mnemonics, jump_mnemonics, memory_mnemonics, name_directives, option_directives, part_directives, reg_mnemonics, shape_directives, symbol_directives, system_mnemonics, value_directives, value_mnemonics, zero_directives, zero_mnemonics}
use Rattle.rv_asm.specs.Tables.{look_up}
use Rattle.rv_asm.proofs.TableLemmas.{one_table_more}
use Rattle.rv_asm.proofs.line.mnemonics.form_of.Goals as goal

pub returns : goal.returns
unfolding form_of
returns c =
    let name = c.args.name.now in
    let front_2 : List (List ℕ × Form) = reg_mnemonics ++ imm_mnemonics in
    let found_2 : c.or.result ≡ look_up front_2 name = one_table_more reg_mnemonics imm_mnemonics name c.reg_mnemonic.result c.imm_mnemonic.result c.or.result c.reg_mnemonic.ensures c.imm_mnemonic.ensures c.or.ensures in
    let front_3 : List (List ℕ × Form) = front_2 ++ memory_mnemonics in
    let found_3 : c.or-2.result ≡ look_up front_3 name = one_table_more front_2 memory_mnemonics name c.or.result c.memory_mnemonic.result c.or-2.result found_2 c.memory_mnemonic.ensures c.or-2.ensures in
    let front_4 : List (List ℕ × Form) = front_3 ++ branch_mnemonics in
    let found_4 : c.or-3.result ≡ look_up front_4 name = one_table_more front_3 branch_mnemonics name c.or-2.result c.branch_mnemonic.result c.or-3.result found_3 c.branch_mnemonic.ensures c.or-3.ensures in
    let front_5 : List (List ℕ × Form) = front_4 ++ zero_mnemonics in
    let found_5 : c.or-4.result ≡ look_up front_5 name = one_table_more front_4 zero_mnemonics name c.or-3.result c.zero_mnemonic.result c.or-4.result found_4 c.zero_mnemonic.ensures c.or-4.ensures in
    let front_6 : List (List ℕ × Form) = front_5 ++ copy_mnemonics in
    let found_6 : c.or-5.result ≡ look_up front_6 name = one_table_more front_5 copy_mnemonics name c.or-4.result c.copy_mnemonic.result c.or-5.result found_5 c.copy_mnemonic.ensures c.or-5.ensures in
    let front_7 : List (List ℕ × Form) = front_6 ++ jump_mnemonics in
    let found_7 : c.or-6.result ≡ look_up front_7 name = one_table_more front_6 jump_mnemonics name c.or-5.result c.jump_mnemonic.result c.or-6.result found_6 c.jump_mnemonic.ensures c.or-6.ensures in
    let front_8 : List (List ℕ × Form) = front_7 ++ value_mnemonics in
    let found_8 : c.or-7.result ≡ look_up front_8 name = one_table_more front_7 value_mnemonics name c.or-6.result c.value_mnemonic.result c.or-7.result found_7 c.value_mnemonic.ensures c.or-7.ensures in
    let front_9 : List (List ℕ × Form) = front_8 ++ system_mnemonics in
    let found_9 : c.or-8.result ≡ look_up front_9 name = one_table_more front_8 system_mnemonics name c.or-7.result c.system_mnemonic.result c.or-8.result found_8 c.system_mnemonic.ensures c.or-8.ensures in
    let front_10 : List (List ℕ × Form) = front_9 ++ part_directives in
    let found_10 : c.or-9.result ≡ look_up front_10 name = one_table_more front_9 part_directives name c.or-8.result c.part_directive.result c.or-9.result found_9 c.part_directive.ensures c.or-9.ensures in
    let front_11 : List (List ℕ × Form) = front_10 ++ value_directives in
    let found_11 : c.or-10.result ≡ look_up front_11 name = one_table_more front_10 value_directives name c.or-9.result c.value_directive.result c.or-10.result found_10 c.value_directive.ensures c.or-10.ensures in
    let front_12 : List (List ℕ × Form) = front_11 ++ zero_directives in
    let found_12 : c.or-11.result ≡ look_up front_12 name = one_table_more front_11 zero_directives name c.or-10.result c.zero_directive.result c.or-11.result found_11 c.zero_directive.ensures c.or-11.ensures in
    let front_13 : List (List ℕ × Form) = front_12 ++ align_directives in
    let found_13 : c.or-12.result ≡ look_up front_13 name = one_table_more front_12 align_directives name c.or-11.result c.align_directive.result c.or-12.result found_12 c.align_directive.ensures c.or-12.ensures in
    let front_14 : List (List ℕ × Form) = front_13 ++ name_directives in
    let found_14 : c.or-13.result ≡ look_up front_14 name = one_table_more front_13 name_directives name c.or-12.result c.name_directive.result c.or-13.result found_13 c.name_directive.ensures c.or-13.ensures in
    let front_15 : List (List ℕ × Form) = front_14 ++ symbol_directives in
    let found_15 : c.or-14.result ≡ look_up front_15 name = one_table_more front_14 symbol_directives name c.or-13.result c.symbol_directive.result c.or-14.result found_14 c.symbol_directive.ensures c.or-14.ensures in
    let front_16 : List (List ℕ × Form) = front_15 ++ shape_directives in
    let found_16 : c.or-15.result ≡ look_up front_16 name = one_table_more front_15 shape_directives name c.or-14.result c.shape_directive.result c.or-15.result found_15 c.shape_directive.ensures c.or-15.ensures in
    let front_17 : List (List ℕ × Form) = front_16 ++ file_directives in
    let found_17 : c.or-16.result ≡ look_up front_17 name = one_table_more front_16 file_directives name c.or-15.result c.file_directive.result c.or-16.result found_16 c.file_directive.ensures c.or-16.ensures in
    let front_18 : List (List ℕ × Form) = front_17 ++ option_directives in
    let found_18 : c.or-17.result ≡ look_up front_18 name = one_table_more front_17 option_directives name c.or-16.result c.option_directive.result c.or-17.result found_17 c.option_directive.ensures c.or-17.ensures in
    found_18
