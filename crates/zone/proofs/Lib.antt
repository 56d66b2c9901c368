mod Batch
