mod Buckets
mod TreeRow
