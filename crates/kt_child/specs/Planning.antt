-- Plans of children: paths, arguments and environment.
pub mod ChildPlan
