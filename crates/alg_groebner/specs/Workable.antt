-- What the code needs of the state that it keeps.
use Rattle.std.specs.Prelude.{◌≡◌, ◌≢◌, ℕ, ◌^◌, ◌<◌, ◌≤◌, List, [], length, All, IsSome}
use Rattle.alg_mono.specs.NumberedPolynomials.{Polynomial}
use Rattle.alg_pairs.specs.declared.pair.Pair.{Pair}
use Rattle.alg_groebner.specs.Work.{Work, member_at}
use Rattle.alg_groebner.specs.declared.member.Member.{Member}

abbrev pub IsSomeMember : Member → Type 0
IsSomeMember b = b.poly ≢ []

-- both lines are basis lines
abbrev pub HasMembers : List Member → Pair → Type 0
HasMembers basis x = IsSome (member_at basis x.i) × IsSome (member_at basis x.j)

pub record IsWorkable (hyps : List Polynomial) (limit : ℕ) (w : Work) : Type 0 where
  pub given : w.given ≡ length hyps
  pub few : w.given < 2 ^ 31
  pub limited : limit < 2 ^ 30
  pub counted : w.count ≤ limit
  pub made : length w.made ≤ w.count
  pub taken : w.taken ≤ w.given
  pub powers : length w.remainders ≤ 16
  pub basis : All IsSomeMember w.basis
  pub pairs : All (HasMembers w.basis) w.queue.pairs
