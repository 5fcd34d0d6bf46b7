use Rattle.kt_dbfile.proofs.Common.{AreNamed, List, Some, [], ap, arith, column_named, get_or, length, map, rules, suc, zero, ℕ, ◌+◌, ◌<◌, ◌∙◌, ◌∷◌, ◌≡◌}
use Rattle.sqlite_schema.specs.declared.schema.Table.{Table}
use Rattle.kt_dbfile.proofs.layout.has_columns.Goals as goal

-- each of the names is that of the column at its index
named : {T : Type 0} (name : T → List ℕ) (d : T) (table : Table) (at i : ℕ) (names : List T) → i < length names → AreNamed table at (map name names) → column_named table (name (get_or names i d)) ≡ Some (at + i)
named name d table at i [] low are = absurd (omega (arith, low))
named name d table at zero (x ∷ names) low are = are.0 ∙ ap (λ n. Some n) (omega arith)
named name d table at (suc i) (x ∷ names) low are = named name d table (suc at) i names (omega (arith, low)) are.1 ∙ ap (λ n. Some n) (omega arith)

pub returns-then-ne : goal.returns-then-ne
returns-then-ne c long are =
    let one = named _ _ c.args.table.now 0 c.loop-name.name-index c.args.names.now (omega (arith, c.loop-name-test.true)) are in
    let found : c.column_named.result ≡ Some c.loop-name.at = c.column_named.ensures.value ∙ ap (column_named c.args.table.now) c.as_bytes.ensures.value ∙ one ∙ ap (λ n. Some n) (omega (arith, c.loop-name.invariant)) in
    let is = rw found at c.ne.ensures in
    search rules
