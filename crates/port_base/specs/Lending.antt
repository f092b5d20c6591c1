-- What a table is once a borrow of one of its values ends.
use Rattle.std.specs.Prelude.{◌≡◌, ℕ, Option, OnSome}
use Rattle.std.specs.Borrow.{LendsSo, MutBor, Fml, RattleType}
use Rattle.std.specs.Ordering.{nat_cmp}
use Rattle.std.specs.FinMap as map
use Rattle.port_base.specs.contracts.table.Table.{the_row}

-- the table has, at the key, the last value behind r, and is unchanged where r is `None`
abbrev pub LendsValue : (V : RattleType) → MutBor (map.FinMap nat_cmp V.Denot) → ℕ
    → Option (MutBor V.Denot) → Fml
LendsValue V s key r = LendsSo (the_row V) V s r (λ n w. OnSome r (n ≡ map.insert s.now key w))
    (λ n. n ≡ s.now)
