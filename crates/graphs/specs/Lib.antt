pub mod Count
pub mod Graph
pub mod Walk
pub mod Ring
pub mod Distance
pub mod AtomList
