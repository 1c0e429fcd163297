-- Laws that belong to no one function.
pub mod Laws
pub mod Words
pub mod Members
pub mod Bytes
pub mod Group
pub mod Rows
pub mod ReductionTags
pub mod ReductionModel
pub mod ReductionTheorems
pub mod ReductionLinear
pub mod IndexReduce
pub mod IndexPush
pub mod IndexLoops
