mod OrderLemmas
mod LineLemmas
mod PutLemmas
mod RoleLemmas
mod BetweenLemmas
mod HalfLemmas
