pub mod Common
pub mod AtfRows
pub mod BodyRows
pub mod EndRows
pub mod RowOrder
