-- The codes of amounts: the number of satoshis without its factors of ten, of which at most nine are counted apart.
use Rattle.std.specs.Prelude.{ℕ, zero, suc, ◌+◌, ◌-◌, ◌*◌, ◌/◌, ◌%◌, ◌^◌, ◌==◌, nat_lt, if◌then◌else◌}

-- how many factors of ten a number has, up to a most
unfoldable pub tens : ℕ → ℕ → ℕ
tens zero n = 0
tens (suc most) n = if n % 10 == 0 then suc (tens most (n / 10)) else 0

-- what is left of it when they are taken out
unfoldable pub left : ℕ → ℕ → ℕ
left zero n = n
left (suc most) n = if n % 10 == 0 then left most (n / 10) else n

-- the code of what is left when e factors of ten are taken out; where e is below 9 the last digit isn't 0
unfoldable pub code_of : ℕ → ℕ → ℕ
code_of e n = if nat_lt e 9 then 1 + 10 * (9 * (n / 10) + n % 10 - 1) + e else 1 + 10 * (n - 1) + 9

-- the code of an amount
unfoldable pub amount_code : ℕ → ℕ
amount_code n = if n == 0 then 0 else code_of (tens 9 n) (left 9 n)

-- what is left by the code of an amount with e factors of ten, of which k is what stands before e
unfoldable pub left_of : ℕ → ℕ → ℕ
left_of e k = if nat_lt e 9 then 10 * (k / 9) + k % 9 + 1 else k + 1

-- the amount of a code
unfoldable pub amount_of : ℕ → ℕ
amount_of code = if code == 0 then 0 else left_of ((code - 1) % 10) ((code - 1) / 10) * 10 ^ ((code - 1) % 10)
