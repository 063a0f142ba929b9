-- The table of CSRs has one row for a number.
use Rattle.std.proofs.Common.{◌≡◌, ℕ, ap, sym, ◌∙◌, refl, Option, Some}
use Rattle.std.specs.Prelude.{All}
use Rattle.std.specs.Option.{option_map}
use Rattle.std.specs.List.{AllByRecursion}
use Rattle.std.proofs.lemmas.List.Elements.{All-from_recursion}
use Rattle.mtraps.specs.declared.values.CsrValues.{CsrValues}
use Rattle.mtraps.specs.CsrTable.{csr_table, csr, read_value, boot_values}

-- each row is the first of its number
rows_found : AllByRecursion (λ row. csr row.number ≡ Some row) csr_table
unfolding csr_table csr
rows_found = (refl, (refl, (refl, (refl, (refl, (refl, (refl, (refl, (refl, (refl, (refl, (refl, (refl, (refl, tt))))))))))))))

-- so a read answers what any row of its number says
pub row_read : (number : ℕ) (s : CsrValues) (result : Option ℕ) → result ≡ read_value number s →
    All (λ row. row.number ≡ number → result ≡ Some (row.value s)) csr_table
unfolding read_value
row_read number s result e k d within same =
    e ∙ ap (λ n. option_map (λ row. row.value s) (csr n)) (sym same)
    ∙ ap (λ row. option_map (λ r. r.value s) row) (All-from_recursion (λ row. csr row.number ≡ Some row) csr_table rows_found k d within)

-- at boot each CSR reads what its row says
boot_by_rows : AllByRecursion (λ row. row.value boot_values ≡ row.boot) csr_table
unfolding csr_table
boot_by_rows = (refl, (refl, (refl, (refl, (refl, (refl, (refl, (refl, (refl, (refl, (refl, (refl, (refl, (refl, tt))))))))))))))

pub boot_rows : All (λ row. row.value boot_values ≡ row.boot) csr_table
boot_rows = All-from_recursion (λ row. row.value boot_values ≡ row.boot) csr_table boot_by_rows
