mod Emitted
mod Blocks
mod Pixels
mod Products
mod Lines
mod Narrowed
mod Same
mod SumsOf
pub mod SumRows
mod Quotients
pub mod ColumnRows
mod MeanLines
mod Taken
mod SameMeans
mod Distances
mod NearestMeans
mod NewMeans
pub mod ClusterRows
